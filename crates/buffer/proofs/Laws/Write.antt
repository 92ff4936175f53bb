-- Laws of `write`, which this file and `Before` alone unfold.
-- In order: nothing written; stores as a write; what stands up to the end of a write and behind it; a write behind a write; a list's length; a write
-- behind a front, and within it.
-- Assumes nothing.
use Prim.Native.Nat.{ℕ, ◌+◌, ◌≤◌, ◌<◌}
use native.Mathlib.Nat.{add-zero, add_assoc}
use native.Mathlib.Numerals.{towards_suc}
use native.Mathlib.Omega.{arith}
use mathlib.Core.Path.{◌≡◌, sym, ◌∙◌, ap, ap₂}
use mathlib.Core.List.{List, [], ◌∷◌, ◌++◌, append_assoc}
use lib.ListN.{length, take, drop, set, length-append, length-drop, take-append-drop}
use lib.Seq.{sets, sets-eq, take_at, drop_at, drop-drop, length-take-le, take-append-le, drop-append-le, take-append-add, drop-append-add}
use borrow.Rule.Slice.PartMut.{put_mid}
use Rattle.buffer.specs.Write.{write}

module _ (d : List ℕ) (at : ℕ) where
  -- nothing written is nothing changed
  pub write-nil : write d at [] ≡ d
  unfolding write
  write-nil = rw add-zero (take-append-drop at d)

  -- a run of stores is one write
  pub sets-write : (bs : List ℕ) → at + length bs ≤ length d → sets d at bs ≡ write d at bs
  unfolding write
  sets-write bs h = sets-eq bs d at h ∙ append_assoc (take at d) bs (drop (at + length bs) d)

  -- one store is a write of one element
  pub set-write : (v : ℕ) → at < length d → set d at v ≡ write d at (v ∷ [])
  set-write v h = sets-write (v ∷ []) (omega arith)

  -- what a part of a slice holds once it is back, at what was copied into it, is one write
  pub part-write : (k : ℕ) {xs : List ℕ} (bs : List ℕ) → xs ≡ bs → length bs ≡ k → put_mid at k d xs ≡ write d at bs
  unfolding write
  part-write k {xs} bs same long = rw (same, drop-drop, long)

  -- the stores of two elements in a row are one write
  pub two-sets-write : (a b : ℕ) → at + 2 ≤ length d → set (set d at a) (at + 1) b ≡ write d at (a ∷ b ∷ [])
  two-sets-write a b h = simp towards_suc (sets-write (a ∷ b ∷ []) (omega arith))

  -- what is written stands between two parts of the list
  parts : (bs : List ℕ) → write d at bs ≡ take at d ++ (bs ++ drop (length bs) (drop at d))
  unfolding write
  parts bs = rw drop-drop

module _ (d : List ℕ) (at : ℕ) (bs : List ℕ) (within : at ≤ length d) where
  -- a write's front is what stood before the place, then what is written
  front : write d at bs ≡ (take at d ++ bs) ++ drop (at + length bs) d
  unfolding write
  front = sym (append_assoc (take at d) bs (drop (at + length bs) d))

  -- and ends where what is written ends
  length_front : length (take at d ++ bs) ≡ at + length bs
  length_front = simp (length-append, length-take-le at d within)

  -- up to the end of what is written
  pub take-write : take (at + length bs) (write d at bs) ≡ take at d ++ bs
  take-write = rw front (take_at (take at d ++ bs) (drop (at + length bs) d) (at + length bs) length_front)

  -- behind what is written nothing is changed
  pub drop-write : drop (at + length bs) (write d at bs) ≡ drop (at + length bs) d
  drop-write = rw front (drop_at (take at d ++ bs) (drop (at + length bs) d) (at + length bs) length_front)

  -- a write right behind another is one write
  pub write-write : (cs : List ℕ) → write (write d at bs) (at + length bs) cs ≡ write d at (bs ++ cs)
  write-write cs =
      rw (parts (write d at bs) (at + length bs) cs, take-write, drop-write, parts d at (bs ++ cs))
      (simp (append_assoc, length-append, drop-drop, add_assoc))

-- a write within a list keeps its length
pub length-write : (d : List ℕ) (at : ℕ) (bs : List ℕ) → at + length bs ≤ length d → length (write d at bs) ≡ length d
unfolding write
length-write d at bs h =
    simp (length-append, length-drop)
    (omega (arith, length-take-le at d (omega arith)))

-- a write behind a front, and one within it
module _ (xs ys : List ℕ) (at : ℕ) (bs : List ℕ) where
  pub write_skip : write (xs ++ ys) (length xs + at) bs ≡ xs ++ write ys at bs
  unfolding write
  write_skip =
      ap₂ (λ (a b : List ℕ). a ++ (bs ++ b)) (take-append-add xs ys at)
      (ap (λ (k : ℕ). drop k (xs ++ ys)) (add_assoc (length xs) at (length bs)) ∙ drop-append-add xs ys (at + length bs))
      ∙ append_assoc xs (take at ys) (bs ++ drop (at + length bs) ys)

  pub write-within : at + length bs ≤ length xs → write (xs ++ ys) at bs ≡ write xs at bs ++ ys
  unfolding write
  write-within h =
      ap₂ (λ (a b : List ℕ). a ++ (bs ++ b)) (take-append-le at xs ys (omega arith)) (drop-append-le (at + length bs) xs ys h)
      ∙ ap (λ (a : List ℕ). take at xs ++ a) (sym (append_assoc bs (drop (at + length bs) xs) ys))
      ∙ sym (append_assoc (take at xs) (bs ++ drop (at + length bs) xs) ys)
