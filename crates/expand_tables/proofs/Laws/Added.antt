-- What preference sheets append is what `added` gives for the oppositions, each pair once.
-- In order: one pair more; each pair once; one opposition more for an override; all oppositions for an override; all overrides; how many
-- pairs there are, and what they keep.
-- Assumes nothing.
use Prim.Native.Nat.{◌+◌, ◌≤◌}
use native.Mathlib.Omega.{arith}
use mathlib.Core.Path.{◌≡◌, refl, sym, ◌∙◌, ap, ap₂}
use mathlib.Core.Bool.{Bool, true, false, cond, not, ◌&&◌, ◌||◌, or-false, or_comm, or_assoc, and_comm}
use mathlib.Core.Logic.{⊎_elim}
use mathlib.Core.List.{List, [], ◌∷◌, ◌++◌, map, append_assoc, append-nil}
use lib.Dec.{T}
use lib.ListN.{length, length-append}
use Rattle.literal.specs.declared.SignedAtom.{SignedAtom}
use Rattle.semantics.specs.Set.{some_of, each_of, same_signed}
use Rattle.semantics.specs.Rule.{Program}
use Rattle.semantics.specs.Expansion.{Override, Opposition, Defeat, defeat_rule, made, made_by, unless_before, appended}
use Rattle.semantics.proofs.Laws.Tests.{both, first, second, either, left, same_test, along, any_append, all_append, any-mem, any_found}
use Rattle.semantics.proofs.Laws.Set.{same-signed-eq}
use Rattle.semantics.proofs.Laws.Candidate.{unless-pair, made_one}
use Rattle.expand_tables.specs.Added.{same_pair, with_pair, each_pair, overruled, added_way, added_pair, added_by, added}

-- the same pair, turned round
pair-turned : (a b : SignedAtom) (x : Opposition) → same_pair b a x ≡ same_pair a b x
unfolding same_pair
pair-turned a b x =
    or_comm (same_signed b x.one && same_signed a x.other) (same_signed b x.other && same_signed a x.one)
    ∙ ap₂ (λ (u v : Bool). u || v) (and_comm (same_signed b x.other) (same_signed a x.one)) (and_comm (same_signed b x.one) (same_signed a x.other))

-- what has x's pair has the pair that is x's
pair_same : (a b : SignedAtom) (x y : Opposition) → T (same_pair a b x) → T (same_pair x.one x.other y) → T (same_pair a b y)
unfolding same_pair
pair_same a b x y k j =
    ⊎_elim
    (λ u.
    let l = same-signed-eq a x.one (first (same_signed a x.one) (same_signed b x.other) u) in
    let r = same-signed-eq b x.other (second (same_signed a x.one) (same_signed b x.other) u) in
    rw (l, r) j)
    (λ u.
    let l = same-signed-eq a x.other (first (same_signed a x.other) (same_signed b x.one) u) in
    let r = same-signed-eq b x.one (second (same_signed a x.other) (same_signed b x.one) u) in
    rw (l, r) (along (sym (pair-turned x.one x.other y)) j))
    (either (same_signed a x.one && same_signed b x.other) (same_signed a x.other && same_signed b x.one) k)

-- one opposition more: a pair is there if it was, or is this one's
pair-with : (a b : SignedAtom) (ys : List Opposition) (x : Opposition)
    → some_of (same_pair a b) (with_pair ys x) ≡ (some_of (same_pair a b) ys || same_pair a b x)
unfolding with_pair
pair-with a b ys x = go (some_of (same_pair x.one x.other) ys) refl
  where
    known : T (some_of (same_pair x.one x.other) ys) → T (same_pair a b x) → T (some_of (same_pair a b) ys)
    known t u = let w = any_found (same_pair x.one x.other) ys t in any-mem (same_pair a b) w.1 (pair_same a b x w.0 u w.2)

    go : (t : Bool) → some_of (same_pair x.one x.other) ys ≡ t
        → some_of (same_pair a b) (cond t ys (ys ++ x ∷ [])) ≡ (some_of (same_pair a b) ys || same_pair a b x)
    go true e =
        same_test (some_of (same_pair a b) ys) (some_of (same_pair a b) ys || same_pair a b x) (left (some_of (same_pair a b) ys) (same_pair a b x))
        (λ t. ⊎_elim (λ u. u) (known (along (sym e) tt)) (either (some_of (same_pair a b) ys) (same_pair a b x) t))
    go false e =
        any_append (same_pair a b) ys (x ∷ []) ∙ ap (λ (t : Bool). some_of (same_pair a b) ys || t) (or-false (same_pair a b x))

-- each pair once: the same pairs are there
pub each-pair-one : (ys xs : List Opposition) (x : Opposition) → each_pair ys (xs ++ x ∷ []) ≡ with_pair (each_pair ys xs) x
unfolding each_pair
each-pair-one ys [] x = refl
each-pair-one ys (y ∷ xs) x = each-pair-one (with_pair ys y) xs x

pub each-pair-same : (a b : SignedAtom) (ys xs : List Opposition)
    → some_of (same_pair a b) (each_pair ys xs) ≡ (some_of (same_pair a b) ys || some_of (same_pair a b) xs)
unfolding each_pair
each-pair-same a b ys [] = sym (or-false (some_of (same_pair a b) ys))
each-pair-same a b ys (x ∷ xs) =
    each-pair-same a b (with_pair ys x) xs
    ∙ ap (λ (t : Bool). t || some_of (same_pair a b) xs) (pair-with a b ys x)
    ∙ or_assoc (some_of (same_pair a b) ys) (same_pair a b x) (some_of (same_pair a b) xs)

-- what an override adds for pairs one behind the other
added-by-append : (p : Program) (before : List Override) (o : Override) (xs ys : List Opposition)
    → added_by p before o (xs ++ ys) ≡ added_by p before o xs ++ added_by p before o ys
unfolding added_by
added-by-append p before o [] ys = refl
added-by-append p before o (x ∷ xs) ys =
    ap (λ (ds : List Defeat). added_pair p before o x ++ ds) (added-by-append p before o xs ys)
    ∙ sym (append_assoc (added_pair p before o x) (added_by p before o xs) (added_by p before o ys))

-- what an override adds for one opposition more
added-by-with : (p : Program) (before : List Override) (o : Override) (ys : List Opposition) (x : Opposition)
    → added_by p before o (with_pair ys x) ≡ added_by p before o ys ++ cond (some_of (same_pair x.one x.other) ys) [] (added_pair p before o x)
unfolding with_pair added_by
added-by-with p before o ys x = go (some_of (same_pair x.one x.other) ys)
  where
    go : (t : Bool) → added_by p before o (cond t ys (ys ++ x ∷ [])) ≡ added_by p before o ys ++ cond t [] (added_pair p before o x)
    go true = sym (append-nil (added_by p before o ys))
    go false = added-by-append p before o ys (x ∷ []) ∙ ap (λ (ds : List Defeat). added_by p before o ys ++ ds) (append-nil (added_pair p before o x))

-- the two options of each opposition differ
abbrev pub Differ : List Opposition → Type 0
Differ xs = T (each_of (λ x. not (same_signed x.one x.other)) xs)

-- for one override, behind those before, and all oppositions
module _ (p : Program) (before : List Override) (o : Override) (all : List Opposition) where
  -- one opposition more: what is appended, behind what was
  one_more : (gone rest : List Opposition) (x : Opposition) → all ≡ gone ++ x ∷ rest → T (not (same_signed x.one x.other))
      → unless_before [] (made p before all ++ made_by p o (gone ++ x ∷ []))
      ≡ unless_before [] (made p before all ++ made_by p o gone) ++ cond (some_of (same_pair x.one x.other) gone) [] (added_pair p before o x)
  unfolding same_pair added_pair added_way overruled
  one_more gone rest x split d = rw split (unless-pair p before o gone rest x d)

  -- all of them: `gone` are passed, and ys are their pairs, each once
  all_more : (gone rest ys : List Opposition) → all ≡ gone ++ rest → Differ rest
      → ((a b : SignedAtom) → some_of (same_pair a b) ys ≡ some_of (same_pair a b) gone)
      → unless_before [] (made p before all ++ made_by p o gone) ≡ unless_before [] (made p before all) ++ added_by p before o ys
      → unless_before [] (made p before all ++ made_by p o (gone ++ rest)) ≡ unless_before [] (made p before all) ++ added_by p before o (each_pair ys rest)
  unfolding each_pair
  all_more gone [] ys split d same so_far = rw (append-nil gone) so_far
  all_more gone (x ∷ rest) ys split d same so_far =
      ap (λ (xs : List Opposition). unless_before [] (made p before all ++ made_by p o xs)) (sym (append_assoc gone (x ∷ []) rest))
      ∙ all_more (gone ++ x ∷ []) rest (with_pair ys x) (split ∙ sym (append_assoc gone (x ∷ []) rest)) behind
      (λ a b. pair-with a b ys x ∙ ap₂ (λ (u v : Bool). u || v) (same a b) (sym (or-false (same_pair a b x))) ∙ sym (any_append (same_pair a b) gone (x ∷ [])))
      (one_more gone rest x split here
      ∙ ap₂ (λ (ds : List Defeat) (t : Bool). ds ++ cond t [] (added_pair p before o x)) so_far (sym (same x.one x.other))
      ∙ append_assoc (unless_before [] (made p before all)) (added_by p before o ys) _
      ∙ ap (λ (ds : List Defeat). unless_before [] (made p before all) ++ ds) (sym (added-by-with p before o ys x)))
    where
      here : T (not (same_signed x.one x.other))
      here = first (not (same_signed x.one x.other)) (each_of (λ y. not (same_signed y.one y.other)) rest) d

      behind : Differ rest
      behind = second (not (same_signed x.one x.other)) (each_of (λ y. not (same_signed y.one y.other)) rest) d

  -- what an override adds
  override-more : Differ all
      → unless_before [] (made p before all ++ made_by p o all) ≡ unless_before [] (made p before all) ++ added_by p before o (each_pair [] all)
  unfolding made_by added_by
  override-more d =
      all_more [] all [] refl d (λ a b. refl)
      (ap (unless_before []) (append-nil (made p before all)) ∙ sym (append-nil (unless_before [] (made p before all))))

-- what overrides add, behind those before
overrides-more : (p : Program) (before os : List Override) (xs : List Opposition) → Differ xs
    → unless_before [] (made p (before ++ os) xs) ≡ unless_before [] (made p before xs) ++ added p before os (each_pair [] xs)
unfolding added
overrides-more p before [] xs d =
    ap (λ (os : List Override). unless_before [] (made p os xs)) (append-nil before) ∙ sym (append-nil (unless_before [] (made p before xs)))
overrides-more p before (o ∷ os) xs d =
    ap (λ (ns : List Override). unless_before [] (made p ns xs)) (sym (append_assoc before (o ∷ []) os))
    ∙ overrides-more p (before ++ o ∷ []) os xs d
    ∙ ap (λ (ds : List Defeat). unless_before [] ds ++ added p (before ++ o ∷ []) os (each_pair [] xs)) (made_one p before o xs)
    ∙ ap (λ (ds : List Defeat). ds ++ added p (before ++ o ∷ []) os (each_pair [] xs)) (override-more p before o xs d)
    ∙ append_assoc (unless_before [] (made p before xs)) (added_by p before o (each_pair [] xs)) (added p (before ++ o ∷ []) os (each_pair [] xs))

-- the appended rules, by what each candidate is by itself
pub appended-added : (p : Program) (os : List Override) (xs : List Opposition) → Differ xs
    → appended p os xs ≡ map defeat_rule (added p [] os (each_pair [] xs))
unfolding appended made unless_before
appended-added p os xs d = ap (map defeat_rule) (overrides-more p [] os xs d)

-- there are at most as many pairs as oppositions
with-one : (ys : List Opposition) (x : Opposition) → length (with_pair ys x) ≤ length ys + 1
unfolding with_pair
with-one ys x = go (some_of (same_pair x.one x.other) ys)
  where
    go : (t : Bool) → length (cond t ys (ys ++ x ∷ [])) ≤ length ys + 1
    go true = omega arith
    go false = omega (arith, length-append ys (x ∷ []))

pub length-each-pair : (ys xs : List Opposition) → length (each_pair ys xs) ≤ length ys + length xs
unfolding each_pair
length-each-pair ys [] = omega arith
length-each-pair ys (x ∷ xs) = omega (arith, length-each-pair (with_pair ys x) xs, with-one ys x)

-- what each opposition keeps, those of each pair keep
pub each-pair-keeps : (f : Opposition → Bool) (ys xs : List Opposition) → T (each_of f ys) → T (each_of f xs) → T (each_of f (each_pair ys xs))
unfolding each_pair with_pair
each-pair-keeps f ys [] k j = k
each-pair-keeps f ys (x ∷ xs) k j = each-pair-keeps f (with_pair ys x) xs (go (some_of (same_pair x.one x.other) ys)) (second (f x) (each_of f xs) j)
  where
    go : (t : Bool) → T (each_of f (cond t ys (ys ++ x ∷ [])))
    go true = k
    go false = along (sym (all_append f ys (x ∷ []))) (both (each_of f ys) (f x && true) k (both (f x) true (first (f x) (each_of f xs) j) tt))
