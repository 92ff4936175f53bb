-- Which positions the bit operations leave. Two masks with the same positions are one.
-- In order: the empty mask; and, or, xor; equality; parts and masks apart, by their positions.
-- Assumes nothing.
use Prim.Native.Nat.{ℕ, zero, suc, ◌+◌, ◌*◌, ◌/◌, ◌%◌, ◌<◌, min, max}
use native.Mathlib.Nat.{mod-lt, zero-lt-suc, div-add-mod'}
use native.Mathlib.Omega.{arith}
use mathlib.Core.Path.{◌≡◌, refl, sym, ap, ap₂, subst, ◌∙◌}
use mathlib.Core.Bool.{Bool, true, false, not, ◌&&◌, ◌||◌}
use lib.Arith.{digits_mod, digits_div, bin_ind}
use lib.Bits.{bit_and, bit_or, bit_xor, differ, and_step, or_step, xor_step}
use lib.Dec.{T, eqb}
use Rattle.semantics.proofs.Laws.Tests.{both, first, second, same_test, is_false, along}
use Rattle.mask.specs.Code.{has, Within, Apart}

two_pos : zero < 2
two_pos = zero-lt-suc 1

-- the empty mask has no position
pub has-zero : (i : ℕ) → has 0 i ≡ false
unfolding has
has-zero zero = refl
has-zero (suc i) = has-zero i

-- an operation that works digit by digit decides each position by itself
module _ (op f : ℕ → ℕ → ℕ) (g : Bool → Bool → Bool)
    (step : (a b : ℕ) → op a b ≡ op (a / 2) (b / 2) * 2 + f (a % 2) (b % 2))
    (small : (x y : ℕ) → x < 2 → y < 2 → f x y < 2)
    (digit : (x y : ℕ) → x < 2 → y < 2 → eqb (f x y) 1 ≡ g (eqb x 1) (eqb y 1)) where
  has-op : (a b i : ℕ) → has (op a b) i ≡ g (has a i) (has b i)
  unfolding has
  has-op a b zero =
      ap (λ x. eqb (x % 2) 1) (step a b)
      ∙ ap (λ x. eqb x 1) (digits_mod (op (a / 2) (b / 2)) (small (a % 2) (b % 2) (mod-lt a two_pos) (mod-lt b two_pos)))
      ∙ digit (a % 2) (b % 2) (mod-lt a two_pos) (mod-lt b two_pos)
  has-op a b (suc i) =
      ap (λ x. has (x / 2) i) (step a b)
      ∙ ap (λ x. has x i) (digits_div (op (a / 2) (b / 2)) (small (a % 2) (b % 2) (mod-lt a two_pos) (mod-lt b two_pos)))
      ∙ has-op (a / 2) (b / 2) i

-- a digit is 0 or 1
by_digits : (P : ℕ → ℕ → Type 0) → P 0 0 → P 0 1 → P 1 0 → P 1 1 → (x y : ℕ) → x < 2 → y < 2 → P x y
by_digits P a b c d zero zero h k = a
by_digits P a b c d zero (suc zero) h k = b
by_digits P a b c d zero (suc (suc y)) h k = absurd (omega arith)
by_digits P a b c d (suc zero) zero h k = c
by_digits P a b c d (suc zero) (suc zero) h k = d
by_digits P a b c d (suc zero) (suc (suc y)) h k = absurd (omega arith)
by_digits P a b c d (suc (suc x)) y h k = absurd (omega arith)

-- what is in one of two masks and not in the other
abbrev pub either-one : Bool → Bool → Bool
either-one true b = not b
either-one false b = b

pub has-and : (a b i : ℕ) → has (bit_and a b) i ≡ (has a i && has b i)
has-and =
    has-op bit_and min (λ x y. x && y) and_step (by_digits (λ x y. min x y < 2) (omega arith) (omega arith) (omega arith) (omega arith))
    (by_digits (λ x y. eqb (min x y) 1 ≡ (eqb x 1 && eqb y 1)) refl refl refl refl)

pub has-or : (a b i : ℕ) → has (bit_or a b) i ≡ (has a i || has b i)
has-or =
    has-op bit_or max (λ x y. x || y) or_step (by_digits (λ x y. max x y < 2) (omega arith) (omega arith) (omega arith) (omega arith))
    (by_digits (λ x y. eqb (max x y) 1 ≡ (eqb x 1 || eqb y 1)) refl refl refl refl)

pub has-xor : (a b i : ℕ) → has (bit_xor a b) i ≡ either-one (has a i) (has b i)
has-xor =
    has-op bit_xor differ either-one xor_step (by_digits (λ x y. differ x y < 2) (omega arith) (omega arith) (omega arith) (omega arith))
    (by_digits (λ x y. eqb (differ x y) 1 ≡ either-one (eqb x 1) (eqb y 1)) refl refl refl refl)

-- the same lowest position, the same lowest digit
same-digit : (x y : ℕ) → x < 2 → y < 2 → eqb x 1 ≡ eqb y 1 → x ≡ y
same-digit =
    by_digits (λ x y. eqb x 1 ≡ eqb y 1 → x ≡ y) (λ e. refl) (λ e. absurd (subst T (sym e) tt)) (λ e. absurd (subst T e tt)) (λ e. refl)

empty-zero : (n : ℕ) → ((i : ℕ) → has n i ≡ false) → n ≡ 0
unfolding has
empty-zero =
    bin_ind (λ (n : ℕ). ((i : ℕ) → has n i ≡ false) → n ≡ 0) (λ h. refl)
    (λ n ih h.
    let high : n / 2 ≡ 0 = ih (λ i. h (suc i)) in
    let low : n % 2 ≡ 0 = same-digit (n % 2) 0 (mod-lt n two_pos) two_pos (h zero) in
    sym (div-add-mod' n 2) ∙ ap₂ (λ x y. x * 2 + y) high low)

-- two masks with the same positions are one
pub has-ext : (a b : ℕ) → ((i : ℕ) → has a i ≡ has b i) → a ≡ b
unfolding has
has-ext =
    bin_ind (λ (a : ℕ). (b : ℕ) → ((i : ℕ) → has a i ≡ has b i) → a ≡ b) (λ b h. sym (empty-zero b (λ i. sym (h i) ∙ has-zero i)))
    (λ a ih b h.
    let high : a / 2 ≡ b / 2 = ih (b / 2) (λ i. h (suc i)) in
    let low : a % 2 ≡ b % 2 = same-digit (a % 2) (b % 2) (mod-lt a two_pos) (mod-lt b two_pos) (h zero) in
    sym (div-add-mod' a 2) ∙ ap₂ (λ x y. x * 2 + y) high low ∙ div-add-mod' b 2)

-- a part of a mask, by its positions
pub within_has : (a b : ℕ) → Within a b → (i : ℕ) → T (has a i) → T (has b i)
within_has a b e i t = second (has a i) (has b i) (along (ap (λ x. has x i) (sym e) ∙ has-and a b i) t)

pub has_within : (a b : ℕ) → ((i : ℕ) → T (has a i) → T (has b i)) → Within a b
has_within a b h =
    has-ext (bit_and a b) a
    (λ i. has-and a b i ∙ same_test (has a i && has b i) (has a i) (first (has a i) (has b i)) (λ t. both (has a i) (has b i) t (h i t)))

-- masks apart, by their positions
pub apart-has : (a b : ℕ) → Apart a b → (i : ℕ) → T (has a i) → T (has b i) → ⊥
apart-has a b e i s t = along (sym (has-and a b i) ∙ ap (λ x. has x i) e ∙ has-zero i) (both (has a i) (has b i) s t)

pub has-apart : (a b : ℕ) → ((i : ℕ) → T (has a i) → T (has b i) → ⊥) → Apart a b
has-apart a b h =
    has-ext (bit_and a b) 0
    (λ i. has-and a b i ∙ is_false (has a i && has b i) (λ t. h i (first (has a i) (has b i) t) (second (has a i) (has b i) t)) ∙ sym (has-zero i))
