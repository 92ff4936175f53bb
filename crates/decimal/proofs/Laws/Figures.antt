-- The figures of a number counted by comparisons: one more for each power of 10 that the number has reached.
-- In order: the powers that a number has reached; of a number and of its tenth; the count is a decimal's length; a bound.
-- Assumes nothing.
use Prim.Native.Nat.{ℕ, zero, suc, ◌+◌, ◌*◌, ◌/◌, ◌^◌, ◌≤◌, ◌<◌}
use native.Mathlib.Omega.{arith}
use mathlib.Core.Path.{◌≡◌, refl, sym, ◌∙◌, ap₂}
use mathlib.Core.Bool.{Bool, true, false}
use lib.Dec.{ltb, leb}
use lib.ListN.{length}
use borrow.Author.Tests.{ltb-true, ltb-false, leb-true, leb-false, le-leb, lt-leb}
use mir.Val.{bool_byte}
use Rattle.decimal.specs.Decimal.{decimal}
use Rattle.decimal.proofs.Laws.Decimal.{length-less, length_more}

-- how many of p, p * 10, and so on, k of them, n has reached
abbrev pub reached : ℕ → ℕ → ℕ → ℕ
reached zero p n = 0
reached (suc k) p n = bool_byte (leb p n) + reached k (p * 10) n

-- a number has reached ten times what its tenth has
tenth-reached : (k p n : ℕ) → reached k (p * 10) n ≡ reached k p (n / 10)
tenth-reached zero p n = refl
tenth-reached (suc k) p n = ap₂ (λ (b : Bool) (m : ℕ). bool_byte b + m) (go (leb (p * 10) n) refl) (tenth-reached k (p * 10) n)
  where
    go : (t : Bool) → leb (p * 10) n ≡ t → leb (p * 10) n ≡ leb p (n / 10)
    go true e = e ∙ sym (le-leb p (n / 10) (omega (arith, leb-true (p * 10) n e)))
    go false e = e ∙ sym (lt-leb p (n / 10) (omega (arith, leb-false (p * 10) n e)))

-- a number below all of them has reached none
none-reached : (k p n : ℕ) → n < p → reached k p n ≡ 0
none-reached zero p n h = refl
none-reached (suc k) p n h = rw (lt-leb p n h) (omega (arith, none-reached k (p * 10) n (omega arith)))

-- a number of at most k + 1 figures has one, and one for each of the k powers that it has reached
pub count-figures : (k n : ℕ) → n < 10 ^ suc k → 1 + reached k 10 n ≡ length (decimal n)
count-figures zero n h = sym (length-less n (omega arith))
count-figures (suc k) n h = go (ltb n 10) refl (count-figures k (n / 10) (omega arith))
  where
    go : (t : Bool) → ltb n 10 ≡ t → 1 + reached k 10 (n / 10) ≡ length (decimal (n / 10)) → 1 + reached (suc k) 10 n ≡ length (decimal n)
    go true e ih = omega (arith, none-reached (suc k) 10 n (ltb-true n 10 e), length-less n (ltb-true n 10 e))
    go false e ih =
        rw (le-leb 10 n (ltb-false n 10 e)) (omega (arith, tenth-reached k 10 n, length_more n (ltb-false n 10 e)))

-- no more are reached than there are
pub most-reached : (k p n : ℕ) → reached k p n ≤ k
most-reached zero p n = omega arith
most-reached (suc k) p n = omega (arith, one-most (leb p n), most-reached k (p * 10) n)
  where
    one-most : (b : Bool) → bool_byte b ≤ 1
    one-most true = omega arith
    one-most false = omega arith
