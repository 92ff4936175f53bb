-- The parts of a list are what its masks pick, and their order is that of the masks as numbers (01, "Check").
-- In order: a mask's part; a part's mask; the order; the first mask that passes a test is the first part that does.
-- Assumes nothing.
use Prim.Native.Nat.{ℕ, ◌+◌, ◌%◌, ◌^◌, ◌≤◌, ◌<◌}
use native.Mathlib.Nat.{pow-suc, mod-eq_of_lt, le_refl}
use native.Mathlib.Omega.{arith}
use mathlib.Core.Path.{◌≡◌, refl, sym, ap, subst, ◌∙◌}
use mathlib.Core.Bool.{Bool, true, false, cond}
use mathlib.Core.List.{List, [], ◌∷◌}
use Rattle.std.specs.Prelude.{Option, Some, None}
use lib.Dec.{T}
use lib.ListN.{length}
use Rattle.literal.specs.declared.Literal.{Literal}
use Rattle.semantics.specs.Verdict.{first_subset}
use Rattle.semantics.specs.Findings.{Part, nil, absent, present, Before}
use Rattle.semantics.proofs.Laws.Part.{none_first, some_first}
use Rattle.mask.specs.Code.{has}
use Rattle.mask.proofs.Laws.Place.{has-add-below, has-add-at, has-beyond, mod-suc}
use Rattle.check_force.proofs.Laws.Build.{picked}
use Rattle.check_search.specs.Code.{First}
use Rattle.check_search.proofs.Laws.Found.{found_in}

-- a literal is present or absent, and a part of the rest
abbrev one_more : {l : Literal} {s ls : List Literal} (b : Bool) → Part s ls → Part (cond b (l ∷ s) s) (l ∷ ls)
one_more true w = present w
one_more false w = absent w

-- what a mask picks is a part
unfoldable pub picked-part : (x : ℕ) (ls : List Literal) → Part (picked x ls) ls
unfolding picked
picked-part x [] = nil
picked-part x (l ∷ ls) = one_more (has x (length ls)) (picked-part x ls)

-- a part's mask
abbrev mark : {s ls : List Literal} → Part s ls → ℕ
mark nil = 0
mark (absent w) = mark w
mark (present {ls} w) = 2 ^ length ls + mark w

mark-lt : {s ls : List Literal} (w : Part s ls) → mark w < 2 ^ length ls
mark-lt nil = omega arith
mark-lt (absent {ls} w) = omega (arith, mark-lt w, pow-suc 2 (length ls))
mark-lt (present {ls} w) = omega (arith, mark-lt w, pow-suc 2 (length ls))

picked-below : (k r : ℕ) (ls : List Literal) → length ls ≤ k → picked (2 ^ k + r) ls ≡ picked r ls
unfolding picked
picked-below k r [] h = refl
picked-below k r (l ∷ ls) h = rw (has-add-below k r (length ls) h, picked-below k r ls (omega arith))

picked-mark : {s ls : List Literal} (w : Part s ls) → picked (mark w) ls ≡ s
unfolding picked
picked-mark nil = refl
picked-mark (absent {ls} w) = rw (has-beyond (length ls) (mark w) (mark-lt w)) (picked-mark w)
picked-mark (present {l} {ls} w) =
    rw (has-add-at (length ls) (mark w) (mark-lt w)) (ap (λ s. l ∷ s) (picked-below (length ls) (mark w) ls (le_refl (length ls)) ∙ picked-mark w))

-- a part before what a mask picks has a smaller mask
before-lt : (x : ℕ) (ls : List Literal) {t : List Literal} (v : Part t ls) → Before v (picked-part x ls) → mark v < x % 2 ^ length ls
unfolding picked picked-part
before-lt x [] nil h = absurd h
before-lt x (l ∷ ls) v h =
    subst (λ (n : ℕ). mark v < n) (sym (mod-suc x (length ls))) (go (has x (length ls)) (λ t u. before-lt x ls u) v h)
  where
    go : (b : Bool) → ((t : List Literal) (u : Part t ls) → Before u (picked-part x ls) → mark u < x % 2 ^ length ls)
        → {t : List Literal} (u : Part t (l ∷ ls)) → Before u (one_more b (picked-part x ls)) → mark u < cond b (2 ^ length ls) 0 + x % 2 ^ length ls
    go true ih (absent u) h = omega (arith, mark-lt u)
    go true ih (present {s} u) h = omega (arith, ih s u h)
    go false ih {t} (absent u) h = omega (arith, ih t u h)
    go false ih (present u) h = absurd h

-- a search over masks of ls for a property that says of each mask that what it picks passes a test
module _ (ls : List Literal) (test : List Literal → Bool) {P : ℕ → Type 0}
    (small : (x : ℕ) → P x → x < 2 ^ length ls)
    (passes : (x : ℕ) → P x → T (test (picked x ls)))
    (all : (x : ℕ) → x < 2 ^ length ls → T (test (picked x ls)) → P x) where
  marked : {t : List Literal} (v : Part t ls) → T (test t) → P (mark v)
  marked v y = all (mark v) (mark-lt v) (subst (λ s. T (test s)) (sym (picked-mark v)) y)

  -- the smallest mask picks the first part
  pub first-picked : (r : Option ℕ) → First P r → first_subset ls test ≡ found_in ls r
  first-picked None n = none_first ls test (λ s v y. n (mark v) (marked v y))
  first-picked (Some m) f =
      some_first test
      (record {
        part = picked-part m ls;
        passes = passes m f.passes;
        first = λ t v b y. omega (
          arith,
          f.least (mark v) (marked v y),
          subst (λ (n : ℕ). mark v < n) (mod-eq_of_lt (small m f.passes)) (before-lt m ls v b),
        );
      })
