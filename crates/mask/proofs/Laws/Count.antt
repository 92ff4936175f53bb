-- How many positions a mask has: a part has at most as many, and fewer where it is not the whole; masks apart have theirs together.
-- Assumes nothing.
use Prim.Native.Nat.{ℕ, zero, suc, ◌+◌, ◌*◌, ◌/◌, ◌%◌, ◌≤◌, ◌<◌, min}
use native.Mathlib.Nat.{mod-lt, zero-lt-suc}
use native.Mathlib.Omega.{arith}
use mathlib.Core.Path.{◌≡◌, refl, sym, ap, ap₂, ◌∙◌}
use lib.Arith.{bin_ind, digits_mod, digits_div}
use lib.Bits.{bit_and, bit_or, bit_xor, differ, and_step, xor_step, and_comm, or_disjoint, xor_disjoint}
use lib.Count.{ones, ones_step}
use Rattle.mask.specs.Code.{Within, Apart}
use Rattle.mask.proofs.Laws.Part.{xor-sum}

two_pos : zero < 2
two_pos = zero-lt-suc 1

ones-zero : ones 0 ≡ 0
unfolding ones
ones-zero = refl

-- one digit more
ones-digit : (n q d : ℕ) → d < 2 → n ≡ q * 2 + d → ones n ≡ d + ones q
ones-digit n q d h e =
    ones_step n ∙ ap₂ (λ x y. x + ones y) (ap (λ x. x % 2) e ∙ digits_mod q h) (ap (λ x. x / 2) e ∙ digits_div q h)

-- the digits of two numbers, counted in their difference and twice in what they share
differ-digit : (x y : ℕ) → x < 2 → y < 2 → (differ x y < 2) × (differ x y + min x y * 2 ≡ x + y)
differ-digit zero zero h k = (omega arith, omega arith)
differ-digit zero (suc zero) h k = (omega arith, omega arith)
differ-digit zero (suc (suc y)) h k = absurd (omega arith)
differ-digit (suc zero) zero h k = (omega arith, omega arith)
differ-digit (suc zero) (suc zero) h k = (omega arith, omega arith)
differ-digit (suc zero) (suc (suc y)) h k = absurd (omega arith)
differ-digit (suc (suc x)) y h k = absurd (omega arith)

ones-xor-and : (a b : ℕ) → ones (bit_xor a b) + ones (bit_and a b) * 2 ≡ ones a + ones b
ones-xor-and =
    bin_ind (λ (n : ℕ). (b : ℕ) → ones (bit_xor n b) + ones (bit_and n b) * 2 ≡ ones n + ones b) (λ b. omega (arith, ones-zero)) step
  where
    step : (n : ℕ) → ((b : ℕ) → ones (bit_xor (n / 2) b) + ones (bit_and (n / 2) b) * 2 ≡ ones (n / 2) + ones b)
        → (b : ℕ) → ones (bit_xor n b) + ones (bit_and n b) * 2 ≡ ones n + ones b
    step n ih b =
        let d = differ-digit (n % 2) (b % 2) (mod-lt n two_pos) (mod-lt b two_pos) in
        omega (
          arith,
          ones-digit (bit_xor n b) (bit_xor (n / 2) (b / 2)) (differ (n % 2) (b % 2)) d.0 (xor_step n b),
          ones-digit (bit_and n b) (bit_and (n / 2) (b / 2)) (min (n % 2) (b % 2)) (omega arith) (and_step n b),
          ones_step n,
          ones_step b,
          ih (b / 2),
          d.1,
        )

-- a mask without a part of it and the part have the mask's positions
pub ones-xor : (a b : ℕ) → Within b a → ones (bit_xor a b) + ones b ≡ ones a
ones-xor a b p = let e : ones (bit_and a b) ≡ ones b = ap ones (and_comm a b ∙ p) in omega (arith, ones-xor-and a b)

-- masks apart have together what each has
pub ones-or : (a b : ℕ) → Apart a b → ones (bit_or a b) ≡ ones a + ones b
ones-or a b p =
    let e : ones (bit_or a b) ≡ ones (bit_xor a b) = ap ones (or_disjoint a b p ∙ sym (xor_disjoint a b p)) in
    omega (arith, ones-xor-and a b, ap ones p, ones-zero)

ones_none : (n : ℕ) → ones n ≡ 0 → n ≡ 0
ones_none =
    bin_ind (λ (n : ℕ). ones n ≡ 0 → n ≡ 0) (λ e. refl)
    (λ n ih e. let high : n / 2 ≡ 0 = ih (omega (arith, ones_step n)) in omega (arith, ones_step n))

pub ones-mono : (b a : ℕ) → Within b a → ones b ≤ ones a
ones-mono b a p = omega (arith, ones-xor a b p)

pub ones-strict : (b a : ℕ) → Within b a → (b ≡ a → ⊥) → ones b < ones a
ones-strict b a p f = go (ones (bit_xor a b)) refl
  where
    go : (n : ℕ) → ones (bit_xor a b) ≡ n → ones b < ones a
    go zero e = absurd (f (omega (arith, ones_none (bit_xor a b) e, xor-sum a b p)))
    go (suc n) e = omega (arith, ones-xor a b p)
