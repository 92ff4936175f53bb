-- Laws of places: within limits, each literal has a place of its own, and places ascend as literals do.
-- In order: rows; a literal's row and number; rows ascend; places do; the places of atoms and of marks.
-- Assumes nothing.
use Prim.Native.Nat.{ℕ, ◌+◌, ◌*◌, ◌-◌, ◌≤◌, ◌<◌}
use native.Mathlib.Omega.{arith}
use mathlib.Core.Path.{◌≡◌, refl, ap, ap₂}
use mathlib.Core.Bool.{Bool, true, false, ◌&&◌}
use mathlib.Core.Logic.{◌⊎◌, inl, inr}
use lib.Dec.{T, ltb, ltb→lt, lt→ltb}
use borrow.Author.Tests.{ltb-true, ltb-false, le-leb, lt-leb}
use Rattle.literal.specs.declared.Limits.{Limits}
use Rattle.literal.specs.declared.Atom.{Atom}
use Rattle.literal.specs.declared.SignedAtom.TheVariants.{Positive, Negative}
use Rattle.literal.specs.declared.Literal.{Literal}
use Rattle.literal.specs.declared.Literal.TheVariants.{Signed, Defeated, Derived, RuleDefeated}
use Rattle.literal.specs.Literal.{kind, tag_field, atom_field, in_range, ranged, takes}
use Rattle.literal.specs.Order.{key, before}
use Rattle.literal.proofs.Laws.Literal.{Fits, in-range, takes-ranged}
use Rattle.literal.proofs.Laws.Order.{key-injective}
use Rattle.semantics.proofs.Laws.Tests.{first, second, same_test}
use Rattle.aspif_place.specs.Code.{row_places, tag_rows, rows, words, row_of, place_of, place, Placeable}

-- of two numbers, the second is no more or the first is less
pub le-or-lt : (j k : ℕ) → (j ≤ k) ⊎ (k < j)
le-or-lt j k = go (ltb k j) refl
  where
    go : (b : Bool) → ltb k j ≡ b → (j ≤ k) ⊎ (k < j)
    go true e = inr (ltb-true k j e)
    go false e = inl (ltb-false k j e)

-- a kind and a tag have a row: of atoms, of marks with tags, of rule-defeated marks
pub data Row (k t : ℕ) : Type 0 where
  of-atoms : k ≤ 1 → t ≡ 0 → Row k t
  of-marks : 2 ≤ k → k ≤ 5 → 1 ≤ t → t ≤ tag_rows → Row k t
  of-rules : k ≡ 6 → t ≡ 0 → Row k t

pub row-atoms : (k t : ℕ) → k ≤ 1 → row_of k t ≡ k
unfolding row_of
row-atoms k t h = rw (le-leb k 1 h)

pub row-marks : (k t : ℕ) → 2 ≤ k → k ≤ 5 → row_of k t ≡ tag_rows * (k - 2) + t + 1
unfolding row_of
row-marks k t g h = rw (lt-leb k 1 g, le-leb k 5 h)

pub row-rules : (k t : ℕ) → k ≡ 6 → row_of k t ≡ rows - 1
unfolding row_of
row-rules k t e = rw e

-- a literal that the form takes has a row, and its number a place there
pub record HasPlace (l : Literal) : Type 0 where
  pub row : Row (kind l) (tag_field l)
  pub number : atom_field l < row_places

pub placed : (F : Limits) → Placeable F → (l : Literal) → T (takes F l) → HasPlace l
unfolding kind tag_field atom_field ranged
placed F w l h = go l (takes-ranged F l h)
  where
    mark : (k t a : ℕ) → 2 ≤ k → k ≤ 5 → T (in_range F.tags t && in_range F.atoms a) → Row k t × (a < row_places)
    mark k t a g e h =
        let tag = in-range F.tags t (first (in_range F.tags t) (in_range F.atoms a) h) in
        let atom = in-range F.atoms a (second (in_range F.tags t) (in_range F.atoms a) h) in
        (of-marks g e tag.0 (omega (arith, tag.1, w.tags)), omega (arith, atom.1, w.atoms))

    go : (l : Literal) → T (ranged F l) → HasPlace l
    go (Signed (Positive a)) h = record { row = of-atoms (omega arith) refl; number = omega (arith, (in-range F.atoms a.0 h).1, w.atoms) }
    go (Signed (Negative a)) h = record { row = of-atoms (omega arith) refl; number = omega (arith, (in-range F.atoms a.0 h).1, w.atoms) }
    go (Defeated t (Positive a)) h = let m = mark 2 t.0 a.0 (omega arith) (omega arith) h in record { row = m.0; number = m.1 }
    go (Defeated t (Negative a)) h = let m = mark 3 t.0 a.0 (omega arith) (omega arith) h in record { row = m.0; number = m.1 }
    go (Derived t (Positive a)) h = let m = mark 4 t.0 a.0 (omega arith) (omega arith) h in record { row = m.0; number = m.1 }
    go (Derived t (Negative a)) h = let m = mark 5 t.0 a.0 (omega arith) (omega arith) h in record { row = m.0; number = m.1 }
    go (RuleDefeated n) h = record { row = of-rules refl refl; number = omega (arith, (in-range F.numbers n.0 h).1, w.numbers) }

-- rows ascend with kind and tag, and there are no more
row-less : (k t j u : ℕ) → Row k t → Row j u → k * 65536 + t < j * 65536 + u → row_of k t < row_of j u
row-less k t j u (of-atoms g e) (of-atoms h f) l = omega (arith, row-atoms k t g, row-atoms j u h)
row-less k t j u (of-atoms g e) (of-marks h i p q) l = omega (arith, row-atoms k t g, row-marks j u h i)
row-less k t j u (of-atoms g e) (of-rules f d) l = omega (arith, row-atoms k t g, row-rules j u f)
row-less k t j u (of-marks g e p q) (of-atoms h f) l = absurd (omega arith)
row-less k t j u (of-marks g e p q) (of-marks h i r s) l = go (le-or-lt j k)
  where
    go : (j ≤ k) ⊎ (k < j) → row_of k t < row_of j u
    go (inl b) = let same : j ≡ k = omega arith in omega (arith, row-marks k t g e, row-marks j u h i)
    go (inr b) = omega (arith, row-marks k t g e, row-marks j u h i)
row-less k t j u (of-marks g e p q) (of-rules f d) l = omega (arith, row-marks k t g e, row-rules j u f)
row-less k t j u (of-rules g e) (of-atoms h f) l = absurd (omega arith)
row-less k t j u (of-rules g e) (of-marks h i p q) l = absurd (omega arith)
row-less k t j u (of-rules g e) (of-rules h f) l = absurd (omega arith)

row-most : (k t : ℕ) → Row k t → row_of k t < rows
row-most k t (of-atoms g e) = omega (arith, row-atoms k t g)
row-most k t (of-marks g e p q) = omega (arith, row-marks k t g e)
row-most k t (of-rules g e) = omega (arith, row-rules k t g)

tag_fits : (k t : ℕ) → Row k t → t < 65536
tag_fits k t (of-atoms g e) = omega arith
tag_fits k t (of-marks g e p q) = omega arith
tag_fits k t (of-rules g e) = omega arith

-- a place is one of the words'
pub place-most : (l : Literal) → HasPlace l → place l < 64 * words
unfolding place place_of
place-most l w = omega (arith, row-most (kind l) (tag_field l) w.row, w.number)

-- places ascend as literals do
pub place-less : (l m : Literal) → HasPlace l → HasPlace m → key l < key m → place l < place m
unfolding place place_of key
place-less l m v w h = go (le-or-lt (kind m * 65536 + tag_field m) (kind l * 65536 + tag_field l))
  where
    go : (kind m * 65536 + tag_field m ≤ kind l * 65536 + tag_field l) ⊎ (kind l * 65536 + tag_field l < kind m * 65536 + tag_field m)
        → row_places * row_of (kind l) (tag_field l) + atom_field l < row_places * row_of (kind m) (tag_field m) + atom_field m
    go (inl b) =
        let same_kind : kind l ≡ kind m = omega (arith, v.number, w.number, tag_fits _ _ v.row, tag_fits _ _ w.row) in
        let same_tag : tag_field l ≡ tag_field m = omega (arith, v.number, w.number, tag_fits _ _ v.row, tag_fits _ _ w.row) in
        omega (arith, ap₂ row_of same_kind same_tag)
    go (inr b) = omega (arith, row-less (kind l) (tag_field l) (kind m) (tag_field m) v.row w.row b, v.number, w.number)

-- their fields fit two bytes each
pub place-fits : (l : Literal) → HasPlace l → Fits l
place-fits l w = (tag_fits (kind l) (tag_field l) w.row, omega (arith, w.number))

-- the order of literals by their places
pub before-place : (l m : Literal) → HasPlace l → HasPlace m → before l m ≡ ltb (place l) (place m)
unfolding before
before-place l m v w =
    same_test (ltb (key l) (key m)) (ltb (place l) (place m)) (λ t. lt→ltb (place l) (place m) (place-less l m v w (ltb→lt (key l) (key m) t))) back
  where
    back : T (ltb (place l) (place m)) → T (ltb (key l) (key m))
    back t = go (le-or-lt (key l) (key m)) (le-or-lt (key m) (key l))
      where
        lower : place l < place m
        lower = ltb→lt (place l) (place m) t

        go : (key l ≤ key m) ⊎ (key m < key l) → (key m ≤ key l) ⊎ (key l < key m) → T (ltb (key l) (key m))
        go a (inr b) = lt→ltb (key l) (key m) b
        go (inr a) (inl b) = absurd (omega (arith, place-less m l w v a, lower))
        go (inl a) (inl b) = absurd (omega (arith, ap place (key-injective l m (place-fits l v) (place-fits m w) (omega arith)), lower))

-- different literals have different places
pub place-injective : (l m : Literal) → HasPlace l → HasPlace m → place l ≡ place m → l ≡ m
place-injective l m v w e = go (le-or-lt (key l) (key m)) (le-or-lt (key m) (key l))
  where
    go : (key l ≤ key m) ⊎ (key m < key l) → (key m ≤ key l) ⊎ (key l < key m) → l ≡ m
    go a (inr b) = absurd (omega (arith, place-less l m v w b))
    go (inr a) (inl b) = absurd (omega (arith, place-less m l w v a))
    go (inl a) (inl b) = key-injective l m (place-fits l v) (place-fits m w) (omega arith)

-- where an atom has a place, its negation has one
pub negation-placed : (a : Atom) → HasPlace (Signed (Positive a)) → HasPlace (Signed (Negative a))
unfolding kind tag_field atom_field
negation-placed a w = record { row = of-atoms (omega arith) refl; number = w.number }

-- the places of an atom and of its negation, and those of marks
pub place-positive : (a : Atom) → place (Signed (Positive a)) ≡ a.0
unfolding place place_of kind tag_field atom_field
place-positive a = omega (arith, row-atoms 0 0 (omega arith))

pub place-negative : (a : Atom) → place (Signed (Negative a)) ≡ row_places + a.0
unfolding place place_of kind tag_field atom_field
place-negative a = omega (arith, row-atoms 1 0 (omega arith))

pub place-mark : (l : Literal) → HasPlace l → 2 ≤ kind l → row_places + row_places ≤ place l
unfolding place place_of
place-mark l w h = go w.row
  where
    go : Row (kind l) (tag_field l) → row_places + row_places ≤ row_places * row_of (kind l) (tag_field l) + atom_field l
    go (of-atoms g e) = absurd (omega arith)
    go (of-marks g e b c) = omega (arith, row-marks (kind l) (tag_field l) g e)
    go (of-rules g e) = omega (arith, row-rules (kind l) (tag_field l) g)
