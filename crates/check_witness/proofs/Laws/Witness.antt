-- Laws of the part of a set that is written: one literal further; the record; what it is of a set that was read.
-- In order: one literal; the next; the number of literals behind them; the record of what a mask picks.
-- Assumes nothing.
use Prim.Native.Nat.{ℕ, zero, suc, ◌+◌, ◌-◌, ◌*◌, ◌/◌, ◌≤◌, ◌<◌}
use native.Mathlib.Omega.{arith}
use mathlib.Core.Path.{◌≡◌, refl, sym, ◌∙◌, ap, ap₂}
use mathlib.Core.Bool.{Bool, true, false, cond}
use mathlib.Core.List.{List, [], ◌∷◌, ◌++◌}
use lib.ListN.{length, take, drop, length-append}
use lib.Seq.{take_at}
use Rattle.buffer.specs.Write.{write}
use Rattle.buffer.proofs.Laws.Next.{write-left}
use Rattle.buffer.proofs.Laws.Before.{write-before}
use Rattle.literal.specs.declared.Literal.{Literal}
use Rattle.literal.specs.Literal.{encoded}
use Rattle.literal.proofs.Laws.Literal.{length-encoded}
use Rattle.mask.specs.Code.{has}
use Rattle.record.specs.Layout.{encoded_literals}
use Rattle.record.proofs.Laws.Layout.{length-encoded-literals}
use Rattle.set.specs.Layout.{encoded_set}
use Rattle.set.specs.Code.{set_header}
use Rattle.set.proofs.Laws.Keys.{keys-behind}
use Rattle.check_force.proofs.Laws.Build.{picked, picked-present, picked-absent}
use Rattle.check_witness.specs.Code.{picked_one, picked_bytes, picked_record}

module _ (x i : ℕ) (bs : List ℕ) where
  -- its position is in the mask, or not
  pub picked-one : has x i ≡ true → picked_one x i bs ≡ bs
  unfolding picked_one
  picked-one e = rw e

  pub picked_none : has x i ≡ false → picked_one x i bs ≡ []
  unfolding picked_one
  picked_none e = rw e

-- no more than it has
pub length-picked-one : (x i : ℕ) (bs : List ℕ) → length (picked_one x i bs) ≤ length bs
unfolding picked_one
length-picked-one x i bs = go (has x i)
  where
    go : (b : Bool) → length (cond b bs []) ≤ length bs
    go true = omega arith
    go false = omega arith

module _ (x : ℕ) (s : List ℕ) where
  -- the first of n literals, and those behind it
  pub picked_next : (at n : ℕ) → 0 < n → picked_bytes x s at n ≡ picked_one x (n - 1) (take 5 (drop at s)) ++ picked_bytes x s (at + 5) (n - 1)
  unfolding picked_bytes
  picked_next at zero h = absurd (omega arith)
  picked_next at (suc n) h = ap (λ (i : ℕ). picked_one x i (take 5 (drop at s)) ++ picked_bytes x s (at + 5) i) back
    where
      back : n ≡ suc n - 1
      back = omega arith

  pub picked-end : (at n : ℕ) → n ≤ 0 → picked_bytes x s at n ≡ []
  unfolding picked_bytes
  picked-end at zero h = refl
  picked-end at (suc n) h = absurd (omega arith)

  -- what a mask picks of literals that lie from a place on
  picked-literals : (ls : List Literal) (at : ℕ) → drop at s ≡ encoded_literals ls → picked_bytes x s at (length ls) ≡ encoded_literals (picked x ls)
  unfolding picked_bytes picked encoded_literals
  picked-literals [] at lie = refl
  picked-literals (l ∷ ls) at lie =
      ap₂ (λ (u v : List ℕ). picked_one x (length ls) u ++ v) front (picked-literals ls (at + 5) (keys-behind s at l ls lie)) ∙ choose (has x (length ls)) refl
    where
      front : take 5 (drop at s) ≡ encoded l
      front = ap (take 5) lie ∙ take_at (encoded l) (encoded_literals ls) 5 (length-encoded l)

      choose : (b : Bool) → has x (length ls) ≡ b → picked_one x (length ls) (encoded l) ++ encoded_literals (picked x ls) ≡ encoded_literals (picked x (l ∷ ls))
      choose true e =
          ap (λ (u : List ℕ). u ++ encoded_literals (picked x ls)) (picked-one x (length ls) (encoded l) e) ∙ ap encoded_literals (sym (picked-present x l ls e))
      choose false e =
          ap (λ (u : List ℕ). u ++ encoded_literals (picked x ls)) (picked_none x (length ls) (encoded l) e) ∙ ap encoded_literals (sym (picked-absent x l ls e))

  -- the record of what a mask picks of a set
  pub picked-record : (ls : List Literal) → drop 4 s ≡ encoded_literals ls → picked_record x s (length ls) ≡ encoded_set (picked x ls)
  unfolding picked_record encoded_set set_header
  picked-record ls lie =
      ap (λ (bs : List ℕ). set_header (length bs / 5) ++ bs) (picked-literals ls 4 lie)
      ∙ ap (λ (n : ℕ). set_header n ++ encoded_literals (picked x ls)) (omega (arith, length-encoded-literals (picked x ls)))

-- one literal more is written, and the rest is left
pub picked-left : (x : ℕ) (s : List ℕ) (at n to : ℕ) (d e : List ℕ) (r : ℕ) → 0 < n → to ≤ length d → r ≡ length (picked_one x (n - 1) (take 5 (drop at s)))
    → e ≡ write d to (picked_one x (n - 1) (take 5 (drop at s)))
    → (write d to (picked_bytes x s at n) ≡ write e (to + r) (picked_bytes x s (at + 5) (n - 1)))
    × (length (picked_bytes x s at n) ≡ r + length (picked_bytes x s (at + 5) (n - 1)))
picked-left x s at n to d e r h within size done = (
  ap (write d to) (picked_next x s at n h)
      ∙ write-left d to one (to + r) (picked_bytes x s (at + 5) (n - 1)) within (ap (λ (k : ℕ). to + k) size) e done,
  ap length (picked_next x s at n h) ∙ length-append one (picked_bytes x s (at + 5) (n - 1))
      ∙ ap (λ (k : ℕ). k + length (picked_bytes x s (at + 5) (n - 1))) (sym size),
)
  where
    one : List ℕ
    one = picked_one x (n - 1) (take 5 (drop at s))

-- literal number i of n, from 0
module _ (x : ℕ) (s : List ℕ) (n i to : ℕ) (d e : List ℕ) (r : ℕ) (l : i < n) (within : to ≤ length d) where
  pub picked-step : r ≡ length (picked_one x (n - 1 - i) (take 5 (drop (4 + 5 * i) s))) → e ≡ write d to (picked_one x (n - 1 - i) (take 5 (drop (4 + 5 * i) s)))
      → (write d to (picked_bytes x s (4 + 5 * i) (n - i)) ≡ write e (to + r) (picked_bytes x s (4 + 5 * (i + 1)) (n - (i + 1))))
      × (length (picked_bytes x s (4 + 5 * i) (n - i)) ≡ r + length (picked_bytes x s (4 + 5 * (i + 1)) (n - (i + 1))))
  picked-step size done =
      let place : n - 1 - i ≡ n - i - 1 = omega arith in
      let next : picked_bytes x s (4 + 5 * i + 5) (n - i - 1) ≡ picked_bytes x s (4 + 5 * (i + 1)) (n - (i + 1)) =
      ap₂ (picked_bytes x s) (omega arith) (omega arith) in
      rw (← next) (picked-left x s (4 + 5 * i) (n - i) to d e r (omega arith) within (rw place at size) (rw place at done))

-- the count before the literals that are written makes the record
module _ (x : ℕ) (s : List ℕ) (n to : ℕ) (long : to ≡ 4 + length (picked_bytes x s 4 n)) where
  pub length-picked-record : to ≡ length (picked_record x s n)
  unfolding picked_record set_header
  length-picked-record = omega (arith, long)

  pub picked-written : (d e f : List ℕ) → 4 ≤ length d → e ≡ write d 4 (picked_bytes x s 4 n) → f ≡ write e 0 (set_header ((to - 4) / 5))
      → f ≡ write d 0 (picked_record x s n)
  unfolding picked_record set_header
  picked-written d e f fits done then =
      then
      ∙ ap₂ (λ (k : ℕ) (g : List ℕ). write g 0 (set_header k)) (omega (arith, long)) done
      ∙ write-before d 0 (set_header (length (picked_bytes x s 4 n) / 5)) (picked_bytes x s 4 n) fits
