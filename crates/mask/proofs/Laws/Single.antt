-- A mask of one position: the test `m & (m - 1)`, powers of two, the highest position.
-- Assumes nothing.
use Prim.Native.Nat.{ℕ, zero, suc, ◌-◌, ◌/◌, ◌%◌, ◌^◌, ◌≤◌, ◌<◌}
use native.Mathlib.Nat.{mod-lt, mod_self, pow-suc, zero-lt-suc, le_refl}
use native.Mathlib.Omega.{arith}
use mathlib.Core.Path.{◌≡◌, refl, ap, subst, ◌∙◌}
use mathlib.Core.Logic.{◌⊎◌, inl, inr}
use lib.Arith.{bin_ind}
use lib.Bits.{bit_and, and_step, and_self, and_le_l, and_mask, or_lt, or_disjoint}
use lib.Pow.{pow_pos, pow-lt}
use Rattle.mask.specs.Code.{Within, Apart, Single, Highest}

-- a number that is not 0 is odd, or twice a number that is not 0
odd-or-even : (m : ℕ) → 0 < m → (m % 2 ≡ 1) ⊎ ((m % 2 ≡ 0) × (0 < m / 2))
odd-or-even m p = go (m % 2) refl
  where
    go : (d : ℕ) → m % 2 ≡ d → (m % 2 ≡ 1) ⊎ ((m % 2 ≡ 0) × (0 < m / 2))
    go zero e = inr (e, omega arith)
    go (suc zero) e = inl e
    go (suc (suc d)) e = absurd (omega (arith, mod-lt m (zero-lt-suc 1)))

-- what the lowest digit leaves of an intersection
module _ (m x : ℕ) (p : 0 < m) where
  odd_step : m % 2 ≡ 1 → Apart m (m - 1) → (Apart m x → ⊥) → Within m x
  odd_step o e n =
      let same : (m - 1) / 2 ≡ m / 2 = omega arith in
      let high : bit_and (m / 2) ((m - 1) / 2) ≡ m / 2 = ap (bit_and (m / 2)) same ∙ and_self (m / 2) in
      let none : m / 2 ≡ 0 = omega (arith, and_step m (m - 1)) in
      omega (arith, and_step m x, and_le_l (m / 2) (x / 2))

  even_step : m % 2 ≡ 0 → 0 < m / 2 → (Apart (m / 2) (m / 2 - 1) → (Apart (m / 2) (x / 2) → ⊥) → Within (m / 2) (x / 2))
      → Apart m (m - 1) → (Apart m x → ⊥) → Within m x
  even_step o q below e n =
      let same : m / 2 - 1 ≡ (m - 1) / 2 = omega arith in
      let high : bit_and (m / 2) ((m - 1) / 2) ≡ 0 = omega (arith, and_step m (m - 1)) in
      let kept : Within (m / 2) (x / 2) = below (ap (bit_and (m / 2)) same ∙ high) (λ a. n (omega (arith, and_step m x))) in
      omega (arith, and_step m x)

-- the test, by the digits
abbrev OneOf : ℕ → Type 0
OneOf m = 0 < m → Apart m (m - 1) → (x : ℕ) → (Apart m x → ⊥) → Within m x

one-step : (m : ℕ) → OneOf (m / 2) → OneOf m
one-step m ih p e x n = go (odd-or-even m p)
  where
    go : (m % 2 ≡ 1) ⊎ ((m % 2 ≡ 0) × (0 < m / 2)) → Within m x
    go (inl o) = odd_step m x p o e n
    go (inr o) = even_step m x p o.0 o.1 (λ a b. ih o.1 a (x / 2) b) e n

-- a mask that has no position in common with the number one below has one position at most
pub apart-single : (m : ℕ) → Apart m (m - 1) → Single m
apart-single zero e = record { whole = λ x n. refl }
apart-single (suc m) e = record { whole = bin_ind OneOf (λ q. absurd (omega arith)) one-step (suc m) (zero-lt-suc m) e }

pub pow-single : (j : ℕ) → Single (2 ^ j)
pow-single j = apart-single (2 ^ j) (and_mask (2 ^ j) j ∙ mod_self (2 ^ j))

-- the highest digit of a number is its highest position
pub pow-highest : (m j : ℕ) → 2 ^ j ≤ m → m < 2 ^ suc j → Highest m (2 ^ j)
pow-highest m j l h =
    record {
      position = record { within = (pow-single j).whole m meets; single = pow-single j; some = pow_pos j };
      above = subst (λ (x : ℕ). m < x) (pow-suc 2 j) h;
    }
  where
    meets : Apart (2 ^ j) m → ⊥
    meets e = omega (arith, or_disjoint (2 ^ j) m e, or_lt (suc j) (2 ^ j) m (pow-lt (le_refl (suc j))) h, pow-suc 2 j)
