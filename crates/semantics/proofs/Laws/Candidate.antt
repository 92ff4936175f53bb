-- Laws of candidates, the defeats that overrides make of oppositions, one by one: by what code sees that one is new.
-- In order: candidates that are the same; one candidate more; a candidate among what an override, and what overrides, made; where one
-- that applies came before; one opposition more; one override more. Not here: limits (`Expansion`).
-- Assumes nothing.
use mathlib.Core.Path.{◌≡◌, refl, sym, ◌∙◌, ap, ap₂, subst}
use mathlib.Core.Bool.{Bool, true, false, cond, not, ◌&&◌, ◌||◌, or-false, or_comm, and-true, and-false, and_comm}
use mathlib.Core.Logic.{⊎_elim}
use mathlib.Core.List.{List, [], ◌∷◌, ◌++◌, append_assoc, append-nil}
use lib.Dec.{T}
use Rattle.literal.specs.declared.Tag.{Tag}
use Rattle.literal.specs.declared.SignedAtom.{SignedAtom}
use Rattle.semantics.specs.Set.{some_of, same_tag, same_signed}
use Rattle.semantics.specs.Rule.{Program}
use Rattle.semantics.specs.Expansion.{Override, Opposition, Defeat, same_defeat, heads, made_way, made_pair, made_by, made, unless_before}
use Rattle.semantics.proofs.Laws.Tests.{both, first, second, left, right, either, fails, is_true, is_false, same_test, along, any_append, any-agree}
use Rattle.semantics.proofs.Laws.Set.{same-tag-eq, same-tag-refl, same-signed-eq, same-signed-refl}

-- two candidates that are the same are equal, and a candidate is the same as itself
same-defeat-eq : (d e : Defeat) → T (same_defeat d e) → d ≡ e
unfolding same_defeat
same-defeat-eq d e t =
    let options = same_signed d.loser e.loser && same_signed d.winner e.winner in
    let behind = second (same_tag d.lower e.lower) options t in
    together (same-tag-eq d.lower e.lower (first (same_tag d.lower e.lower) options t))
    (same-signed-eq d.loser e.loser (first (same_signed d.loser e.loser) (same_signed d.winner e.winner) behind))
    (same-signed-eq d.winner e.winner (second (same_signed d.loser e.loser) (same_signed d.winner e.winner) behind))
  where
    together : d.lower ≡ e.lower → d.loser ≡ e.loser → d.winner ≡ e.winner → d ≡ e
    together x y z = λ i. record { lower = x i; loser = y i; winner = z i }

same-defeat-refl : (d : Defeat) → T (same_defeat d d)
unfolding same_defeat
same-defeat-refl d =
    both (same_tag d.lower d.lower) _ (same-tag-refl d.lower)
    (both (same_signed d.loser d.loser) _ (same-signed-refl d.loser) (same-signed-refl d.winner))

-- one candidate more, where `done` came before: appended unless it is among them
last-once : Defeat → List Defeat → List Defeat → List Defeat
last-once e done ds = cond (some_of (same_defeat e) ds || some_of (same_defeat e) done) [] (e ∷ [])

unless-last : (done ds : List Defeat) (e : Defeat) → unless_before done (ds ++ e ∷ []) ≡ unless_before done ds ++ last-once e done ds
unfolding unless_before last-once
unless-last done [] e = go (some_of (same_defeat e) done)
  where
    go : (t : Bool) → cond t [] (e ∷ []) ≡ cond t [] (e ∷ [])
    go t = refl
unless-last done (d ∷ ds) e = go (some_of (same_defeat d) done) refl (unless-last done ds e) (unless-last (d ∷ done) ds e)
  where
    -- where d came before, and e is the same, e came before too
    known : T (some_of (same_defeat d) done) → (some_of (same_defeat e) ds || some_of (same_defeat e) done)
        ≡ ((same_defeat e d || some_of (same_defeat e) ds) || some_of (same_defeat e) done)
    known y =
        same_test (some_of (same_defeat e) ds || some_of (same_defeat e) done) ((same_defeat e d || some_of (same_defeat e) ds) || some_of (same_defeat e) done)
        (λ z. ⊎_elim
        (λ u. left (same_defeat e d || some_of (same_defeat e) ds) (some_of (same_defeat e) done) (right (same_defeat e d) (some_of (same_defeat e) ds) u))
        (λ u. right (same_defeat e d || some_of (same_defeat e) ds) (some_of (same_defeat e) done) u)
        (either (some_of (same_defeat e) ds) (some_of (same_defeat e) done) z))
        (λ z. ⊎_elim
        (λ u. ⊎_elim
        (λ v. right (some_of (same_defeat e) ds) (some_of (same_defeat e) done)
        (subst (λ (x : Defeat). T (some_of (same_defeat x) done)) (sym (same-defeat-eq e d v)) y))
        (λ v. left (some_of (same_defeat e) ds) (some_of (same_defeat e) done) v)
        (either (same_defeat e d) (some_of (same_defeat e) ds) u))
        (λ u. right (some_of (same_defeat e) ds) (some_of (same_defeat e) done) u)
        (either (same_defeat e d || some_of (same_defeat e) ds) (some_of (same_defeat e) done) z))

    swapped : (a b c : Bool) → (b || (a || c)) ≡ ((a || b) || c)
    swapped true true c = refl
    swapped true false c = refl
    swapped false b c = refl

    go : (t : Bool) → some_of (same_defeat d) done ≡ t
        → unless_before done (ds ++ e ∷ []) ≡ unless_before done ds ++ last-once e done ds
        → unless_before (d ∷ done) (ds ++ e ∷ []) ≡ unless_before (d ∷ done) ds ++ last-once e (d ∷ done) ds
        → cond t (unless_before done (ds ++ e ∷ [])) (d ∷ unless_before (d ∷ done) (ds ++ e ∷ []))
        ≡ cond t (unless_before done ds) (d ∷ unless_before (d ∷ done) ds) ++ last-once e done (d ∷ ds)
    go true y h k = h ∙ ap (λ (t : Bool). unless_before done ds ++ cond t [] (e ∷ [])) (known (along (sym y) tt))
    go false y h k =
        ap (λ (es : List Defeat). d ∷ es) k
        ∙ ap (λ (t : Bool). d ∷ (unless_before (d ∷ done) ds ++ cond t [] (e ∷ [])))
        (swapped (same_defeat e d) (some_of (same_defeat e) ds) (some_of (same_defeat e) done))

pub unless-one : (ds : List Defeat) (e : Defeat) → unless_before [] (ds ++ e ∷ []) ≡ unless_before [] ds ++ cond (some_of (same_defeat e) ds) [] (e ∷ [])
unfolding last-once
unless-one ds e = unless-last [] ds e ∙ ap (λ (t : Bool). unless_before [] ds ++ cond t [] (e ∷ [])) (or-false (some_of (same_defeat e) ds))

-- the two options of an opposition are a and b, either way round
abbrev pub opposes : SignedAtom → SignedAtom → Opposition → Bool
opposes a b x = (same_signed a x.one && same_signed b x.other) || (same_signed a x.other && same_signed b x.one)

-- an override makes the mark under this tag, if this option wins
abbrev pub overrules : Program → Tag → SignedAtom → Override → Bool
overrules p t a o = same_tag t o.lower && heads p o.upper a

-- what an override makes of the pair (a, b)
abbrev pub made_of : Override → SignedAtom → SignedAtom → Defeat
made_of o a b = record { lower = o.lower; loser = b; winner = a }

module _ (p : Program) where
  -- an override makes this candidate of some pair: it overrules, and a rule with the lower tag heads the loser
  abbrev makes : Defeat → Override → Bool
  makes e o = overrules p e.lower e.winner o && heads p e.lower e.loser

  -- a candidate is what an override makes of the pair (a, b)
  abbrev makes_of : Override → SignedAtom → SignedAtom → Defeat → Bool
  makes_of o a b e = makes e o && (same_signed e.winner a && same_signed e.loser b)

  made-of-eq : (o : Override) (a b : SignedAtom) (e : Defeat) → T (makes_of o a b e) → e ≡ made_of o a b
  made-of-eq o a b e y =
      let pair = second (makes e o) (same_signed e.winner a && same_signed e.loser b) y in
      let made = first (makes e o) (same_signed e.winner a && same_signed e.loser b) y in
      let over = first (overrules p e.lower e.winner o) (heads p e.lower e.loser) made in
      together (same-tag-eq e.lower o.lower (first (same_tag e.lower o.lower) (heads p o.upper e.winner) over))
      (same-signed-eq e.loser b (second (same_signed e.winner a) (same_signed e.loser b) pair))
      (same-signed-eq e.winner a (first (same_signed e.winner a) (same_signed e.loser b) pair))
    where
      together : e.lower ≡ o.lower → e.loser ≡ b → e.winner ≡ a → e ≡ record { lower = o.lower; loser = b; winner = a }
      together x y z = λ i. record { lower = x i; loser = y i; winner = z i }

  -- of itself: it is made if the override applies to the pair
  made-of-self : (o : Override) (a b : SignedAtom) → makes_of o a b (made_of o a b) ≡ (heads p o.upper a && heads p o.lower b)
  made-of-self o a b =
      let tag = is_true (same_tag o.lower o.lower) (same-tag-refl o.lower) in
      let winner = is_true (same_signed a a) (same-signed-refl a) in
      let loser = is_true (same_signed b b) (same-signed-refl b) in
      rw (tag, winner, loser) (and-true (heads p o.upper a && heads p o.lower b))

  same_way : (o : Override) (a b : SignedAtom) (e : Defeat) → some_of (same_defeat e) (made_way p o a b) ≡ makes_of o a b e
  unfolding made_way
  same_way o a b e = go (heads p o.upper a && heads p o.lower b) (made-of-self o a b)
    where
      go : (t : Bool) → makes_of o a b (made_of o a b) ≡ t → some_of (same_defeat e) (cond t (made_of o a b ∷ []) []) ≡ makes_of o a b e
      go true y =
          same_test (same_defeat e (made_of o a b) || false) (makes_of o a b e)
          (λ z. subst (λ (d : Defeat). T (makes_of o a b d))
          (sym (same-defeat-eq e (made_of o a b) (along (or-false (same_defeat e (made_of o a b))) z))) (along (sym y) tt))
          (λ z. left (same_defeat e (made_of o a b)) false
          (subst (λ (d : Defeat). T (same_defeat d (made_of o a b))) (sym (made-of-eq o a b e z)) (same-defeat-refl (made_of o a b))))
      go false y = sym (is_false (makes_of o a b e) (λ z. along y (subst (λ (d : Defeat). T (makes_of o a b d)) (made-of-eq o a b e z) z)))

  -- a candidate is among what an override makes of an opposition, of oppositions, and among what overrides make
  shared : (m u v : Bool) → ((m && u) || (m && v)) ≡ (m && (u || v))
  shared true u v = refl
  shared false u v = refl

  same-pair : (o : Override) (x : Opposition) (e : Defeat)
      → some_of (same_defeat e) (made_pair p o x) ≡ (makes e o && opposes e.winner e.loser x)
  unfolding made_pair
  same-pair o x e =
      any_append (same_defeat e) (made_way p o x.one x.other) (made_way p o x.other x.one)
      ∙ ap₂ (λ (a b : Bool). a || b) (same_way o x.one x.other e) (same_way o x.other x.one e)
      ∙ shared (makes e o) (same_signed e.winner x.one && same_signed e.loser x.other)
      (same_signed e.winner x.other && same_signed e.loser x.one)

  pub same_by : (o : Override) (xs : List Opposition) (e : Defeat)
      → some_of (same_defeat e) (made_by p o xs) ≡ (makes e o && some_of (opposes e.winner e.loser) xs)
  unfolding made_by
  same_by o [] e = sym (and-false (makes e o))
  same_by o (x ∷ xs) e =
      any_append (same_defeat e) (made_pair p o x) (made_by p o xs)
      ∙ ap₂ (λ (a b : Bool). a || b) (same-pair o x e) (same_by o xs e)
      ∙ shared (makes e o) (opposes e.winner e.loser x) (some_of (opposes e.winner e.loser) xs)

  shared-right : (u v m : Bool) → ((u && m) || (v && m)) ≡ ((u || v) && m)
  shared-right true v true = refl
  shared-right true true false = refl
  shared-right true false false = refl
  shared-right false v m = refl

  pub same-made : (os : List Override) (xs : List Opposition) (e : Defeat)
      → some_of (same_defeat e) (made p os xs) ≡ (some_of (makes e) os && some_of (opposes e.winner e.loser) xs)
  unfolding made
  same-made [] xs e = refl
  same-made (o ∷ os) xs e =
      any_append (same_defeat e) (made_by p o xs) (made p os xs)
      ∙ ap₂ (λ (a b : Bool). a || b) (same_by o xs e) (same-made os xs e)
      ∙ shared-right (makes e o) (some_of (makes e) os) (some_of (opposes e.winner e.loser) xs)

  -- a candidate that applies came before if an opposition that is gone is its pair, or an override that is gone overrules its loser's tag
  pub came-before : (before : List Override) (o : Override) (gone rest : List Opposition) (x : Opposition) (a b : SignedAtom)
      → T (opposes a b x) → T (heads p o.upper a && heads p o.lower b)
      → some_of (same_defeat (made_of o a b)) (made p before (gone ++ x ∷ rest) ++ made_by p o gone)
      ≡ (some_of (opposes a b) gone || some_of (overrules p o.lower a) before)
  came-before before o gone rest x a b pair applies =
      any_append (same_defeat (made_of o a b)) (made p before (gone ++ x ∷ rest)) (made_by p o gone)
      ∙ ap₂ (λ (u v : Bool). u || v) (same-made before (gone ++ x ∷ rest) (made_of o a b)) (same_by o gone (made_of o a b))
      ∙ ap₂ (λ (u v : Bool). u || v) earlier now
      ∙ or_comm (some_of (overrules p o.lower a) before) (some_of (opposes a b) gone)
    where
      upper : T (heads p o.upper a)
      upper = first (heads p o.upper a) (heads p o.lower b) applies

      lower : T (heads p o.lower b)
      lower = second (heads p o.upper a) (heads p o.lower b) applies

      among : T (some_of (opposes a b) (gone ++ x ∷ rest))
      among =
          along (sym (any_append (opposes a b) gone (x ∷ rest)))
          (right (some_of (opposes a b) gone) (opposes a b x || some_of (opposes a b) rest) (left (opposes a b x) (some_of (opposes a b) rest) pair))

      earlier : (some_of (makes (made_of o a b)) before && some_of (opposes a b) (gone ++ x ∷ rest)) ≡ some_of (overrules p o.lower a) before
      earlier =
          ap₂ (λ (u v : Bool). u && v)
          (any-agree before
          (λ n m. ap (λ (t : Bool). overrules p o.lower a n && t) (is_true (heads p o.lower b) lower) ∙ and-true (overrules p o.lower a n)))
          (is_true (some_of (opposes a b) (gone ++ x ∷ rest)) among)
          ∙ and-true (some_of (overrules p o.lower a) before)

      now : (makes (made_of o a b) o && some_of (opposes a b) gone) ≡ some_of (opposes a b) gone
      now =
          ap (λ (t : Bool). t && some_of (opposes a b) gone)
          (is_true (makes (made_of o a b) o)
          (both (overrules p o.lower a o) (heads p o.lower b)
          (both (same_tag o.lower o.lower) (heads p o.upper a) (same-tag-refl o.lower) upper) lower))

  -- a way of a pair that is new: it applies, and no override that is gone overrules its loser's tag
  abbrev pub new_way : List Override → Override → SignedAtom → SignedAtom → Bool
  new_way before o a b = (heads p o.upper a && heads p o.lower b) && not (some_of (overrules p o.lower a) before)

  -- what an opposition adds for an override: nothing where its pair came before, else each way that is new
  abbrev pub way_added : List Override → Override → SignedAtom → SignedAtom → List Defeat
  way_added before o a b = cond (new_way before o a b) (made_of o a b ∷ []) []

  abbrev pub pair_added : List Override → Override → List Opposition → Opposition → List Defeat
  pair_added before o gone x =
      cond (some_of (opposes x.one x.other) gone) [] (way_added before o x.one x.other ++ way_added before o x.other x.one)

  -- one way more
  unless-way : (ds : List Defeat) (o : Override) (a b : SignedAtom) (known : Bool)
      → (T (heads p o.upper a && heads p o.lower b) → some_of (same_defeat (made_of o a b)) ds ≡ known)
      → unless_before [] (ds ++ made_way p o a b)
      ≡ unless_before [] ds ++ cond ((heads p o.upper a && heads p o.lower b) && not known) (made_of o a b ∷ []) []
  unfolding made_way
  unless-way ds o a b known h = go (heads p o.upper a && heads p o.lower b) h known refl
    where
      go : (t : Bool) → (T t → some_of (same_defeat (made_of o a b)) ds ≡ known) → (k : Bool) → known ≡ k
          → unless_before [] (ds ++ cond t (made_of o a b ∷ []) []) ≡ unless_before [] ds ++ cond (t && not k) (made_of o a b ∷ []) []
      go true j true e = unless-one ds (made_of o a b) ∙ ap (λ (u : Bool). unless_before [] ds ++ cond u [] (made_of o a b ∷ [])) (j tt ∙ e)
      go true j false e = unless-one ds (made_of o a b) ∙ ap (λ (u : Bool). unless_before [] ds ++ cond u [] (made_of o a b ∷ [])) (j tt ∙ e)
      go false j k e = ap (unless_before []) (append-nil ds) ∙ sym (append-nil (unless_before [] ds))

  -- an opposition names its pair, either way round
  opposes-self : (x : Opposition) → T (opposes x.one x.other x)
  opposes-self x =
      left (same_signed x.one x.one && same_signed x.other x.other) _
      (both (same_signed x.one x.one) (same_signed x.other x.other) (same-signed-refl x.one) (same-signed-refl x.other))

  opposes-turned : (a b : SignedAtom) (x : Opposition) → opposes b a x ≡ opposes a b x
  opposes-turned a b x =
      or_comm (same_signed b x.one && same_signed a x.other) (same_signed b x.other && same_signed a x.one)
      ∙ ap₂ (λ (u v : Bool). u || v) (and_comm (same_signed b x.other) (same_signed a x.one)) (and_comm (same_signed b x.one) (same_signed a x.other))

  -- two ways in a row, where the pair came before or not
  two_ways : (k : Bool) (ds es fs : List Defeat) (u v : Bool) (d e : Defeat)
      → es ≡ ds ++ cond (u && not (k || v)) (d ∷ []) [] → (w z : Bool) → fs ≡ es ++ cond (w && not (k || z)) (e ∷ []) []
      → fs ≡ ds ++ cond k [] (cond (u && not v) (d ∷ []) [] ++ cond (w && not z) (e ∷ []) [])
  two_ways true ds es fs u v d e x w z y =
      y ∙ ap (λ (t : Bool). es ++ cond t (e ∷ []) []) (and-false w) ∙ append-nil es ∙ x ∙ ap (λ (t : Bool). ds ++ cond t (d ∷ []) []) (and-false u)
  two_ways false ds es fs u v d e x w z y =
      y ∙ ap (λ (l : List Defeat). l ++ cond (w && not z) (e ∷ []) []) x ∙ append_assoc ds (cond (u && not v) (d ∷ []) []) (cond (w && not z) (e ∷ []) [])

  -- what an override makes of one opposition more
  pub made-by-one : (o : Override) (gone : List Opposition) (x : Opposition) → made_by p o (gone ++ x ∷ []) ≡ made_by p o gone ++ made_pair p o x
  unfolding made_by
  made-by-one o [] x = append-nil (made_pair p o x)
  made-by-one o (y ∷ gone) x =
      ap (λ (ds : List Defeat). made_pair p o y ++ ds) (made-by-one o gone x) ∙ sym (append_assoc (made_pair p o y) (made_by p o gone) (made_pair p o x))

  regroup : (bs cs ds es : List Defeat) → bs ++ (cs ++ (ds ++ es)) ≡ ((bs ++ cs) ++ ds) ++ es
  regroup bs cs ds es = simp append_assoc

  -- the second way: it is not the first, for the options differ
  turned : (before : List Override) (o : Override) (gone rest : List Opposition) (x : Opposition) → T (not (same_signed x.one x.other))
      → T (heads p o.upper x.other && heads p o.lower x.one)
      → some_of (same_defeat (made_of o x.other x.one))
      ((made p before (gone ++ x ∷ rest) ++ made_by p o gone) ++ made_way p o x.one x.other)
      ≡ (some_of (opposes x.one x.other) gone || some_of (overrules p o.lower x.other) before)
  turned before o gone rest x differ applies =
      let a = x.one in
      let b = x.other in
      let e = made_of o b a in
      any_append (same_defeat e) (made p before (gone ++ x ∷ rest) ++ made_by p o gone) (made_way p o a b)
      ∙ ap₂ (λ (u v : Bool). u || v) (came-before before o gone rest x b a (along (sym (opposes-turned a b x)) (opposes-self x)) applies)
      (same_way o a b e ∙ is_false (makes_of o a b e) apart)
      ∙ or-false (some_of (opposes b a) gone || some_of (overrules p o.lower b) before)
      ∙ ap (λ (t : Bool). t || some_of (overrules p o.lower b) before) (any-agree gone (λ y m. opposes-turned a b y))
    where
      apart : T (makes_of o x.one x.other (made_of o x.other x.one)) → ⊥
      apart y =
          fails (same_signed x.one x.other) differ
          (second (same_signed x.other x.one) (same_signed x.one x.other)
          (second (makes (made_of o x.other x.one) o) (same_signed x.other x.one && same_signed x.one x.other) y))

  -- one opposition more, for one override
  pub unless-pair : (before : List Override) (o : Override) (gone rest : List Opposition) (x : Opposition) → T (not (same_signed x.one x.other))
      → unless_before [] (made p before (gone ++ x ∷ rest) ++ made_by p o (gone ++ x ∷ []))
      ≡ unless_before [] (made p before (gone ++ x ∷ rest) ++ made_by p o gone) ++ pair_added before o gone x
  unfolding made_pair
  unless-pair before o gone rest x differ =
      let a = x.one in
      let b = x.other in
      let earlier = made p before (gone ++ x ∷ rest) in
      let ds = earlier ++ made_by p o gone in
      let one = unless-way ds o a b _ (came-before before o gone rest x a b (opposes-self x)) in
      let other = unless-way (ds ++ made_way p o a b) o b a _ (turned before o gone rest x differ) in
      ap (λ (es : List Defeat). unless_before [] (earlier ++ es)) (made-by-one o gone x)
      ∙ ap (unless_before []) (regroup earlier (made_by p o gone) (made_way p o a b) (made_way p o b a))
      ∙ two_ways (some_of (opposes a b) gone) (unless_before [] ds) (unless_before [] (ds ++ made_way p o a b))
      (unless_before [] ((ds ++ made_way p o a b) ++ made_way p o b a))
      (heads p o.upper a && heads p o.lower b) (some_of (overrules p o.lower a) before) (made_of o a b) (made_of o b a) one
      (heads p o.upper b && heads p o.lower a) (some_of (overrules p o.lower b) before) other

  -- what one override more makes
  pub made_one : (before : List Override) (o : Override) (xs : List Opposition) → made p (before ++ o ∷ []) xs ≡ made p before xs ++ made_by p o xs
  unfolding made
  made_one [] o xs = append-nil (made_by p o xs)
  made_one (n ∷ before) o xs =
      ap (λ (ds : List Defeat). made_by p n xs ++ ds) (made_one before o xs) ∙ sym (append_assoc (made_by p n xs) (made p before xs) (made_by p o xs))
