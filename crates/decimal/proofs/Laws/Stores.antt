-- Figures stored one by one are a decimal written.
-- In order: the last figure of a number of more than one; the only figure of another; a loop that stores figures from the last on, and
-- one figure more.
-- Assumes nothing.
use Prim.Native.Nat.{ℕ, ◌+◌, ◌-◌, ◌/◌, ◌%◌, ◌≤◌, ◌<◌}
use native.Mathlib.Omega.{arith}
use mathlib.Core.Path.{◌≡◌, refl, sym, ◌∙◌, ap}
use mathlib.Core.Bool.{Bool, true, false}
use mathlib.Core.List.{List, [], ◌∷◌}
use lib.Dec.{leb}
use lib.ListN.{length, set, length-set}
use borrow.Author.Tests.{leb-true, leb-false}
use Rattle.buffer.specs.Write.{write}
use Rattle.buffer.proofs.Laws.Before.{write-before}
use Rattle.buffer.proofs.Laws.Write.{set-write}
use Rattle.decimal.specs.Decimal.{figure, decimal}
use Rattle.decimal.proofs.Laws.Decimal.{decimal-less, decimal-more, length-less, length_more, length-least}

module _ (d : List ℕ) (at n to : ℕ) (last : to + 1 ≡ at + length (decimal n)) (within : to < length d) where
  -- once the last figure is stored, the tenth's decimal is left
  pub last_stored : 10 ≤ n → write d at (decimal n) ≡ write (set d to (figure (n % 10))) at (decimal (n / 10))
  last_stored h =
      ap (write d at) (decimal-more n h)
      ∙ sym (write-before d at (decimal (n / 10)) (figure (n % 10) ∷ []) (omega (arith, length_more n h)))
      ∙ ap (λ (k : ℕ). write (write d k (figure (n % 10) ∷ [])) at (decimal (n / 10))) (omega (arith, length_more n h))
      ∙ ap (λ (e : List ℕ). write e at (decimal (n / 10))) (sym (set-write d to (figure (n % 10)) within))

  -- the only figure, stored
  pub only-stored : n < 10 → write d at (decimal n) ≡ set d to (figure n)
  only-stored h =
      ap (write d at) (decimal-less n h) ∙ ap (λ (k : ℕ). write d k (figure n ∷ [])) (omega (arith, length-less n h)) ∙ sym (set-write d to (figure n) within)

-- figures stored from the last on, down to `to`: e is what d became, and what is left to write is the decimal of `left`, or nothing
pub record Storing (d : List ℕ) (at n : ℕ) (e : List ℕ) (left to : ℕ) : Type 0 where
  pub same : length e ≡ length d
  pub ends : at < to → to ≡ at + length (decimal left)
  pub rest : at < to → write d at (decimal n) ≡ write e at (decimal left)
  pub done : to ≤ at → write d at (decimal n) ≡ e

-- one figure more
pub storing-next : {d e : List ℕ} {at n left to : ℕ} → Storing d at n e left to → at < to → to ≤ length e
    → Storing d at n (set e (to - 1) (figure (left % 10))) (left / 10) (to - 1)
storing-next {d} {e} {at} {n} {left} {to} s low within = record {
  same = length-set e (to - 1) (figure (left % 10)) ∙ s.same;
  ends = λ l. omega (arith, ends, length_more left (many l));
  rest = λ l. s.rest low ∙ last_stored e at left (to - 1) ends (omega arith) (many l);
  done = λ l. s.rest low ∙ only-stored e at left (to - 1) ends (omega arith) (few l) ∙ ap (λ (i : ℕ). set e (to - 1) (figure i)) (omega (arith, few l));
}
  where
    ends : (to - 1) + 1 ≡ at + length (decimal left)
    ends = omega (arith, s.ends low)

    many : at < (to - 1) → 10 ≤ left
    many l = go (leb 10 left) refl
      where
        go : (t : Bool) → leb 10 left ≡ t → 10 ≤ left
        go true t = leb-true 10 left t
        go false t = absurd (omega (arith, ends, length-less left (omega (arith, leb-false 10 left t))))

    few : (to - 1) ≤ at → left < 10
    few l = go (leb 10 left) refl
      where
        go : (t : Bool) → leb 10 left ≡ t → left < 10
        go true t = absurd (omega (arith, ends, length_more left (leb-true 10 left t), length-least (left / 10)))
        go false t = omega (arith, leb-false 10 left t)
