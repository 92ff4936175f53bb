-- What is added by the tables is what `added` gives.
-- In order: a way; a pair of places; pairs; overrides.
-- Assumes nothing.
use Prim.Native.Nat.{ℕ, ◌+◌, ◌-◌, ◌^◌, ◌<◌}
use native.Mathlib.Omega.{arith}
use mathlib.Core.Path.{◌≡◌, refl, sym, ◌∙◌, ap, ap₂, subst}
use mathlib.Core.Bool.{Bool, true, false, cond, not, ◌&&◌, and_comm, and_assoc}
use mathlib.Core.List.{List, [], ◌∷◌, ◌++◌, map, append_assoc, map-append}
use lib.Bits.{bit_and}
use lib.Dec.{eqb, eqb→eq}
use lib.ListN.{length, get_or, take, length-append, length-map}
use lib.Seq.{get_or-take, get_or_at}
use borrow.Author.Tests.{eq-eqb}
use Rattle.literal.specs.declared.SignedAtom.{SignedAtom}
use Rattle.semantics.specs.Set.{some_of}
use Rattle.semantics.specs.Rule.{Program}
use Rattle.semantics.specs.Expansion.{Override, Opposition, Defeat, heads}
use Rattle.semantics.proofs.Laws.Tests.{same_test, along, any-agree}
use Rattle.mask.specs.Code.{has}
use Rattle.mask.proofs.Laws.Member.{has-and, has-ext}
use Rattle.expand_tables.specs.Added.{overruled, added_way, added_pair, added_by, added}
use Rattle.expand_tables.specs.Code.{place_of, mask_of, Tables, Pairs, Headed, is_new, way_new, pair_new, pairs_new, same_lower, all_new}
use Rattle.expand_tables.proofs.Laws.Mask.{mask-and, mask-last, has-mask-seam}
use Rattle.expand_tables.proofs.Laws.Place.{option-place}

-- intersections, in brackets
and-group : (a b c : ℕ) → bit_and a (bit_and b c) ≡ bit_and (bit_and a b) c
and-group a b c =
    has-ext (bit_and a (bit_and b c)) (bit_and (bit_and a b) c)
    (λ i. has-and a (bit_and b c) i ∙ ap (λ (t : Bool). has a i && t) (has-and b c i) ∙ sym (and_assoc (has a i) (has b i) (has c i))
    ∙ ap (λ (t : Bool). t && has c i) (sym (has-and a b i)) ∙ sym (has-and (bit_and a b) c i))

eqb-turned : (m n : ℕ) → eqb m n ≡ eqb n m
eqb-turned m n =
    same_test (eqb m n) (eqb n m) (λ t. along (sym (eq-eqb n m (sym (eqb→eq m n t)))) tt) (λ t. along (sym (eq-eqb m n (sym (eqb→eq n m t)))) tt)

-- of an override, behind those before
module _ (p : Program) (before : List Override) (o : Override) (rest : List Override) where
  -- all of them
  abbrev all : List Override
  all = before ++ o ∷ rest

  -- the overrides up to this one with its lower tag
  abbrev among : ℕ
  among = bit_and (mask_of (λ n. eqb n.lower.0 o.lower.0) all) (2 ^ (length before + 1) - 1)

  regroup : (u s v : Bool) → ((u && true) && not s) && v ≡ (u && v) && not s
  regroup true true true = refl
  regroup true true false = refl
  regroup true false true = refl
  regroup true false false = refl
  regroup false s v = refl

  way_test : (a b : SignedAtom)
      → is_new (mask_of (λ n. heads p n.upper a) all) (mask_of (λ n. heads p n.lower b) all) among (length before)
      ≡ ((heads p o.upper a && heads p o.lower b) && not (overruled p before o a))
  unfolding is_new overruled
  way_test a b =
      let wins : Override → Bool = λ n. heads p n.upper a in
      let same : Override → Bool = λ n. eqb n.lower.0 o.lower.0 in
      ap₂ (λ (s t : Bool). s && t)
      (ap (λ (m : ℕ). eqb m (2 ^ length before))
      (and-group (mask_of wins all) (mask_of same all) (2 ^ (length before + 1) - 1)
      ∙ ap (λ (m : ℕ). bit_and m (2 ^ (length before + 1) - 1)) (sym (mask-and wins same all)))
      ∙ mask-last (λ n. wins n && same n) before o rest
      ∙ ap₂ (λ (s t : Bool). (wins o && s) && not t) (eq-eqb o.lower.0 o.lower.0 refl)
      (any-agree before (λ n m. and_comm (wins n) (same n) ∙ ap (λ (t : Bool). t && wins n) (eqb-turned n.lower.0 o.lower.0))))
      (has-mask-seam (λ n. heads p n.lower b) before o rest)
      ∙ regroup (heads p o.upper a) (some_of (λ n. eqb o.lower.0 n.lower.0 && heads p n.upper a) before) (heads p o.lower b)

  -- one way of the pair of two options
  way-new : (a b : SignedAtom)
      → way_new (mask_of (λ n. heads p n.upper a) all) (mask_of (λ n. heads p n.lower b) all) among (length before) o.lower.0 (place_of a) (place_of b)
      ≡ added_way p before o a b
  unfolding way_new added_way
  way-new a b =
      ap₂ (λ (t : Bool) (d : Defeat). cond t (d ∷ []) []) (way_test a b)
      (ap₂ (λ (x y : SignedAtom). record { lower = o.lower; loser = x; winner = y }) (option-place b) (option-place a))

-- the number at the length of those before, in an array that starts with a list's numbers
pub number_at : {A : Type 0} (f : A → ℕ) (xs : List ℕ) (gone : List A) (x : A) (rest : List A) → take (length (gone ++ x ∷ rest)) xs ≡ map f (gone ++ x ∷ rest)
    → get_or xs (length gone) 0 ≡ f x
number_at f xs gone x rest e =
    let within : length gone < length (gone ++ x ∷ rest) = omega (arith, length-append gone (x ∷ rest)) in
    sym (get_or-take (length (gone ++ x ∷ rest)) xs (length gone) 0 within)
    ∙ ap (λ (ns : List ℕ). get_or ns (length gone) 0) (e ∙ map-append f gone (x ∷ rest))
    ∙ get_or_at (map f gone) (f x) (map f rest) 0 (length gone) (length-map gone f)

-- what an override adds for pairs by the tables
module _ (p : Program) (before : List Override) (o : Override) (rest : List Override) (win lose ones others : List ℕ)
    (headed : Headed p (before ++ o ∷ rest) win lose) where
  pair-new : (x : Opposition)
      → pair_new win lose (among p before o rest) (length before) o.lower.0 (place_of x.one) (place_of x.other) ≡ added_pair p before o x
  unfolding pair_new added_pair
  pair-new x =
      rw (headed.wins x.one, headed.loses x.other, headed.wins x.other, headed.loses x.one)
      (ap₂ (λ (d e : List Defeat). d ++ e) (way-new p before o rest x.one x.other) (way-new p before o rest x.other x.one))

  pairs-new : (gone left : List Opposition) → Pairs (gone ++ left) ones others
      → pairs_new win lose ones others (among p before o rest) (length before) o.lower.0 (length gone) (length left) ≡ added_by p before o left
  unfolding pairs_new added_by
  pairs-new gone [] w = refl
  pairs-new gone (x ∷ left) w =
      ap₂ (λ (d e : List Defeat). d ++ e)
      (ap₂ (λ (k l : ℕ). pair_new win lose (among p before o rest) (length before) o.lower.0 k l)
      (number_at (λ y. place_of y.one) ones gone x left w.one) (number_at (λ y. place_of y.other) others gone x left w.other) ∙ pair-new x)
      (ap (λ (n : ℕ). pairs_new win lose ones others (among p before o rest) (length before) o.lower.0 n (length left)) (sym (length-append gone (x ∷ [])))
      ∙ pairs-new (gone ++ x ∷ []) left (subst (λ (xs : List Opposition). Pairs xs ones others) (sym (append_assoc gone (x ∷ []) left)) w))

-- what all overrides add
module _ (p : Program) (xs : List Opposition) (up low lowers win lose ones others : List ℕ) (pairs : Pairs xs ones others) where
  overrides-new : (before rest : List Override) → Tables (before ++ rest) up low lowers → Headed p (before ++ rest) win lose
      → all_new low lowers win lose ones others (length xs) (length before) (length rest) ≡ added p before rest xs
  unfolding all_new added
  overrides-new before [] w headed = refl
  overrides-new before (o ∷ rest) w headed =
      let back : before ++ o ∷ rest ≡ (before ++ o ∷ []) ++ rest = sym (append_assoc before (o ∷ []) rest) in
      ap₂ (λ (d e : List Defeat). d ++ e)
      (ap (λ (t : ℕ). pairs_new win lose ones others (same_lower low t (length before)) (length before) t 0 (length xs))
      (number_at (λ n. n.lower.0) lowers before o rest w.tags)
      ∙ ap (λ (m : ℕ). pairs_new win lose ones others (bit_and m (2 ^ (length before + 1) - 1)) (length before) o.lower.0 0 (length xs))
      (w.losers o.lower.0)
      ∙ pairs-new p before o rest win lose ones others headed [] xs pairs)
      (ap (λ (n : ℕ). all_new low lowers win lose ones others (length xs) n (length rest)) (sym (length-append before (o ∷ [])))
      ∙ overrides-new (before ++ o ∷ []) rest (subst (λ (os : List Override). Tables os up low lowers) back w)
      (subst (λ (os : List Override). Headed p os win lose) back headed))

-- what is added by the tables is what the sheets append
pub all_new_lem : (p : Program) (os : List Override) (xs : List Opposition) (up low lowers win lose ones others : List ℕ)
    → Tables os up low lowers → Pairs xs ones others → Headed p os win lose
    → all_new low lowers win lose ones others (length xs) 0 (length os) ≡ added p [] os xs
all_new_lem p os xs up low lowers win lose ones others tables pairs headed =
    overrides-new p xs up low lowers win lose ones others pairs [] os tables headed
