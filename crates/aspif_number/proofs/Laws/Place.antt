-- Places taken from bytes: the row of a kind, the place of five bytes in a slice, those of literals one behind the other.
-- In order: rows; a row's bound; a place in a slice; a literal's five bytes; a run of literals; how many places it has.
-- Assumes nothing.
use Prim.Native.Nat.{ℕ, zero, suc, ◌+◌, ◌*◌, ◌-◌, ◌≤◌, ◌<◌}
use native.Mathlib.Nat.{add-zero}
use native.Mathlib.Omega.{arith}
use mathlib.Core.Path.{◌≡◌, refl, sym, ap, ap₂, ◌∙◌}
use mathlib.Core.Bool.{Bool, true, false}
use mathlib.Core.List.{List, [], ◌∷◌, ◌++◌, map, append_assoc}
use lib.Dec.{leb}
use lib.ListN.{length, get_or, drop}
use lib.Seq.{get_or-drop, drop-drop, drop_at}
use borrow.Author.Tests.{leb-true, le-leb, lt-leb}
use Rattle.buffer.specs.Bytes.{number_at}
use Rattle.buffer.proofs.Laws.Bytes.{number-two_bytes}
use Rattle.literal.specs.declared.Literal.{Literal}
use Rattle.literal.specs.Literal.{tag_field, atom_field, encoded}
use Rattle.literal.proofs.Laws.Literal.{length-encoded}
use Rattle.record.specs.Layout.{encoded_literals}
use Rattle.aspif_place.specs.Code.{row_of, place_of, place, place_at}
use Rattle.aspif_number.specs.Code.{shift, places_at}

-- the row of a mark, and of what is left
module _ (k t : ℕ) where
  pub row-mark : 1 < k → k ≤ 5 → shift + row_of k t ≡ 200 * k + t
  unfolding row_of
  row-mark h g = rw (lt-leb k 1, le-leb k 5) (omega arith)

  pub row_last : 5 < k → row_of k t ≡ 802
  unfolding row_of
  row_last h = let g : 1 < k = omega arith in rw (lt-leb k 1, lt-leb k 5)

  -- no row is far above the tag
  pub row-le : row_of k t ≤ 802 + t
  unfolding row_of
  row-le = go (leb k 1) refl (leb k 5) refl
    where
      go : (a : Bool) → leb k 1 ≡ a → (b : Bool) → leb k 5 ≡ b → row_of k t ≤ 802 + t
      go true p b q = rw p (omega (arith, leb-true k 1 p))
      go false p true q = rw (p, q) (omega (arith, leb-true k 5 q))
      go false p false q = rw (p, q) (omega arith)

-- the place of what stands in a slice
pub place_in : (s : List ℕ) (at : ℕ) → place_at (drop at s) ≡ 512 * row_of (get_or s at 0) (number_at s (at + 1)) + number_at s (at + 3)
unfolding place_at place_of
place_in s at =
    let low : at + 1 + 1 ≡ at + 2 = omega arith in
    let last : at + 3 + 1 ≡ at + 4 = omega arith in
    rw (get_or-drop at s 0 0, get_or-drop at s 1 0, get_or-drop at s 2 0, get_or-drop at s 3 0, get_or-drop at s 4 0, add-zero at, low, last)

-- a literal's bytes spell its place, whatever stands behind them
pub place_at-encoded : (l : Literal) (rest : List ℕ) → place_at (encoded l ++ rest) ≡ place l
unfolding place_at place encoded
place_at-encoded l rest = rw (number-two_bytes (tag_field l), number-two_bytes (atom_field l))

-- the places of literals that stand in a slice
pub places-spelled : (s : List ℕ) (ls : List Literal) (at : ℕ) (rest : List ℕ) → drop at s ≡ encoded_literals ls ++ rest
    → places_at s at (length ls) ≡ map place ls
unfolding places_at encoded_literals
places-spelled s [] at rest e = refl
places-spelled s (l ∷ ls) at rest e =
    let here = e ∙ append_assoc (encoded l) (encoded_literals ls) rest in
    let next = sym (drop-drop 5 at s) ∙ ap (drop 5) here ∙ drop_at (encoded l) (encoded_literals ls ++ rest) 5 (length-encoded l) in
    ap₂ (λ (k : ℕ) (ks : List ℕ). k ∷ ks) (ap place_at here ∙ place_at-encoded l (encoded_literals ls ++ rest)) (places-spelled s ls (at + 5) rest next)

-- the first place, and those that are left
module _ (s : List ℕ) (at : ℕ) where
  pub places-first : (n : ℕ) → 0 < n → places_at s at n ≡ place_at (drop at s) ∷ places_at s (at + 5) (n - 1)
  unfolding places_at
  places-first zero h = absurd (omega arith)
  places-first (suc n) h = let back : n ≡ suc n - 1 = omega arith in ap (λ (k : ℕ). place_at (drop at s) ∷ places_at s (at + 5) k) back

  pub places-none : (n : ℕ) → n ≤ 0 → places_at s at n ≡ []
  unfolding places_at
  places-none zero h = refl
  places-none (suc n) h = absurd (omega arith)

-- there are as many places as literals
pub length-places : (s : List ℕ) (at n : ℕ) → length (places_at s at n) ≡ n
unfolding places_at
length-places s at zero = refl
length-places s at (suc n) = ap suc (length-places s (at + 5) n)
