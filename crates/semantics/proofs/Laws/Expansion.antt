-- Laws of preference sheets: what the rules that they append are, and how many.
-- In order: the rules of an append; items within a form's limits; no sheet, no appended rule; how many are appended; that each is within the limits; an expanded
-- program within the limits. Not here: by what code sees that an appended rule is new (`Candidate`).
-- Assumes nothing.
use Prim.Native.Nat.{◌+◌, ◌*◌, ◌≤◌}
use native.Mathlib.Omega.{arith}
use native.Mathlib.Nat.{mul-le-mul}
use mathlib.Core.Path.{◌≡◌, refl, sym, ◌∙◌, ap}
use mathlib.Core.Bool.{Bool, true, false, cond, not, ◌&&◌}
use mathlib.Core.List.{List, [], ◌∷◌, ◌++◌, map}
use lib.Dec.{T, leb, leb→le}
use lib.ListN.{length, length-append, length-map}
use Rattle.literal.specs.declared.Limits.{Limits}
use Rattle.literal.specs.declared.Tag.{Tag}
use Rattle.literal.specs.declared.SignedAtom.{SignedAtom}
use Rattle.literal.specs.declared.SignedAtom.TheVariants.{Positive, Negative}
use Rattle.literal.specs.declared.Literal.TheVariants.{Signed, Defeated}
use Rattle.literal.specs.Literal.{most_kind, atom_number, kind, in_range, ranged, takes}
use Rattle.literal.proofs.Laws.Literal.{takes-ranged, takes-both}
use Rattle.semantics.specs.Set.{some_of, each_of, same_tag, same_signed}
use Rattle.semantics.specs.Rule.{Program}
use Rattle.semantics.specs.Expansion.{Override, Opposition, Defeat, same_defeat, defeat_rule, heads, made_way, made_pair, made_by, made, unless_before, appended}
use Rattle.semantics.specs.Item.{Item, rule, override, opposition, rules, overrides, oppositions, appended_by, expanded}
use Rattle.semantics.specs.Translation.{translation_length}
use Rattle.semantics.specs.Form.{keeps_rule, keeps_override, keeps_opposition, keeps_item, keeps_items, keeps_defeat}
use Rattle.semantics.proofs.Laws.Tests.{both, first, second, along, all_append}
use Rattle.semantics.proofs.Laws.Form.{keeps-rules}
use Rattle.semantics.proofs.Laws.Length.{program_length}
use Rattle.semantics.proofs.Laws.Expanded.{Expanded, defeat-keeps, expanded-program-length, expanded-translation-length}

-- the rules of items one behind the other
pub rules-append : (is js : List Item) → rules (is ++ js) ≡ rules is ++ rules js
unfolding rules
rules-append [] js = refl
rules-append (rule r ∷ is) js = ap (λ (p : Program). r ∷ p) (rules-append is js)
rules-append (override o ∷ is) js = rules-append is js
rules-append (opposition x ∷ is) js = rules-append is js

module _ (F : Limits) where
  -- the counts of items within the limits, and each item
  pub record KeptItems (is : List Item) : Type 0 where
    pub rules-few : length (rules is) ≤ F.rules
    pub overrides-few : length (overrides is) ≤ F.sheets
    pub oppositions-few : length (oppositions is) ≤ F.sheets
    pub rules-each : T (each_of (keeps_rule F) (rules is))
    pub overrides-each : T (each_of (keeps_override F) (overrides is))
    pub oppositions-each : T (each_of (keeps_opposition F) (oppositions is))

  keeps-rules-of : (is : List Item) → T (each_of (keeps_item F) is) → T (each_of (keeps_rule F) (rules is))
  unfolding rules keeps_item
  keeps-rules-of [] k = tt
  keeps-rules-of (rule r ∷ is) k =
      both (keeps_rule F r) (each_of (keeps_rule F) (rules is)) (first (keeps_rule F r) (each_of (keeps_item F) is) k)
      (keeps-rules-of is (second (keeps_rule F r) (each_of (keeps_item F) is) k))
  keeps-rules-of (override o ∷ is) k = keeps-rules-of is (second (keeps_override F o) (each_of (keeps_item F) is) k)
  keeps-rules-of (opposition x ∷ is) k = keeps-rules-of is (second (keeps_opposition F x) (each_of (keeps_item F) is) k)

  keeps-overrides-of : (is : List Item) → T (each_of (keeps_item F) is) → T (each_of (keeps_override F) (overrides is))
  unfolding overrides keeps_item
  keeps-overrides-of [] k = tt
  keeps-overrides-of (rule r ∷ is) k = keeps-overrides-of is (second (keeps_rule F r) (each_of (keeps_item F) is) k)
  keeps-overrides-of (override o ∷ is) k =
      both (keeps_override F o) (each_of (keeps_override F) (overrides is)) (first (keeps_override F o) (each_of (keeps_item F) is) k)
      (keeps-overrides-of is (second (keeps_override F o) (each_of (keeps_item F) is) k))
  keeps-overrides-of (opposition x ∷ is) k = keeps-overrides-of is (second (keeps_opposition F x) (each_of (keeps_item F) is) k)

  keeps-oppositions-of : (is : List Item) → T (each_of (keeps_item F) is) → T (each_of (keeps_opposition F) (oppositions is))
  unfolding oppositions keeps_item
  keeps-oppositions-of [] k = tt
  keeps-oppositions-of (rule r ∷ is) k = keeps-oppositions-of is (second (keeps_rule F r) (each_of (keeps_item F) is) k)
  keeps-oppositions-of (override o ∷ is) k = keeps-oppositions-of is (second (keeps_override F o) (each_of (keeps_item F) is) k)
  keeps-oppositions-of (opposition x ∷ is) k =
      both (keeps_opposition F x) (each_of (keeps_opposition F) (oppositions is)) (first (keeps_opposition F x) (each_of (keeps_item F) is) k)
      (keeps-oppositions-of is (second (keeps_opposition F x) (each_of (keeps_item F) is) k))

  pub kept-items : (is : List Item) → T (keeps_items F is) → KeptItems is
  unfolding keeps_items
  kept-items is k =
      let sheets = leb (length (overrides is)) F.sheets && leb (length (oppositions is)) F.sheets in
      let counts = first (leb (length (rules is)) F.rules && sheets) (each_of (keeps_item F) is) k in
      let each = second (leb (length (rules is)) F.rules && sheets) (each_of (keeps_item F) is) k in
      let few = second (leb (length (rules is)) F.rules) sheets counts in
      record {
        rules-few = leb→le (length (rules is)) F.rules (first (leb (length (rules is)) F.rules) sheets counts);
        overrides-few =
            leb→le (length (overrides is)) F.sheets
            (first (leb (length (overrides is)) F.sheets) (leb (length (oppositions is)) F.sheets) few);
        oppositions-few =
            leb→le (length (oppositions is)) F.sheets
            (second (leb (length (overrides is)) F.sheets) (leb (length (oppositions is)) F.sheets) few);
        rules-each = keeps-rules-of is each;
        overrides-each = keeps-overrides-of is each;
        oppositions-each = keeps-oppositions-of is each;
      }

-- without overrides, or without oppositions, nothing is made
module _ (p : Program) where
  made-unopposed : (os : List Override) → made p os [] ≡ []
  unfolding made made_by
  made-unopposed [] = refl
  made-unopposed (o ∷ os) = made-unopposed os

pub appended-no-override : (is : List Item) → overrides is ≡ [] → appended_by is ≡ []
unfolding appended_by appended made unless_before
appended-no-override is e = ap (λ (os : List Override). appended (rules is) os (oppositions is)) e

pub appended-no-opposition : (is : List Item) → oppositions is ≡ [] → appended_by is ≡ []
unfolding appended_by appended unless_before
appended-no-opposition is e =
    ap (λ (xs : List Opposition). appended (rules is) (overrides is) xs) e
    ∙ ap (λ (ds : List Defeat). map defeat_rule (unless_before [] ds)) (made-unopposed (rules is) (overrides is))

-- how many candidates there are, and how many of them are kept
length-way : (p : Program) (o : Override) (a b : SignedAtom) → length (made_way p o a b) ≤ 1
unfolding made_way
length-way p o a b = go (heads p o.upper a && heads p o.lower b)
  where
    go : (t : Bool) → length {A = Defeat} (cond t (record { lower = o.lower; loser = b; winner = a } ∷ []) []) ≤ 1
    go true = omega arith
    go false = omega arith

length-made-by : (p : Program) (o : Override) (xs : List Opposition) → length (made_by p o xs) ≤ 2 * length xs
unfolding made_by made_pair
length-made-by p o [] = omega arith
length-made-by p o (x ∷ xs) =
    omega (
      arith,
      length-append (made_way p o x.one x.other ++ made_way p o x.other x.one) (made_by p o xs),
      length-append (made_way p o x.one x.other) (made_way p o x.other x.one),
      length-way p o x.one x.other,
      length-way p o x.other x.one,
      length-made-by p o xs,
    )

length-made : (p : Program) (os : List Override) (xs : List Opposition) → length (made p os xs) ≤ 2 * (length os * length xs)
unfolding made
length-made p [] xs = omega arith
length-made p (o ∷ os) xs =
    omega (arith, length-append (made_by p o xs) (made p os xs), length-made-by p o xs, length-made p os xs)

length-unless : (done ds : List Defeat) → length (unless_before done ds) ≤ length ds
unfolding unless_before
length-unless done [] = omega arith
length-unless done (d ∷ ds) = go (some_of (same_defeat d) done) (length-unless done ds) (length-unless (d ∷ done) ds)
  where
    go : (t : Bool) → length (unless_before done ds) ≤ length ds → length (unless_before (d ∷ done) ds) ≤ length ds
        → length (cond t (unless_before done ds) (d ∷ unless_before (d ∷ done) ds)) ≤ length (d ∷ ds)
    go true h k = omega arith
    go false h k = omega arith

pub length-appended : (is : List Item) → length (appended_by is) ≤ 2 * (length (overrides is) * length (oppositions is))
unfolding appended_by appended
length-appended is =
    let ds = made (rules is) (overrides is) (oppositions is) in
    omega (arith, length-map (unless_before [] ds) defeat_rule, length-unless [] ds, length-made (rules is) (overrides is) (oppositions is))

-- each appended rule is of the form's literals
module _ (F : Limits) (wide : 3 ≤ most_kind F.kinds) (p : Program) where
  keeps_made : Defeat → Bool
  keeps_made d = takes F (Defeated d.lower d.loser) && takes F (Signed d.winner)

  -- the mark of an option under a tag of the form's
  takes-mark : (t : Tag) (b : SignedAtom) → T (in_range F.tags t.0) → T (takes F (Signed b)) → T (takes F (Defeated t b))
  unfolding ranged kind
  takes-mark t b y z =
      takes-both F (Defeated t b) (small b)
      (both (in_range F.tags t.0) (in_range F.atoms (atom_number b)) y (takes-ranged F (Signed b) z))
    where
      small : (a : SignedAtom) → kind (Defeated t a) ≤ most_kind F.kinds
      small (Positive a) = omega arith
      small (Negative a) = omega arith

  keeps-way : (o : Override) (a b : SignedAtom) → T (in_range F.tags o.lower.0) → T (takes F (Signed a)) → T (takes F (Signed b))
      → T (each_of keeps_made (made_way p o a b))
  unfolding made_way keeps_made
  keeps-way o a b y z w = go (heads p o.upper a && heads p o.lower b)
    where
      go : (t : Bool) → T (each_of keeps_made (cond t (record { lower = o.lower; loser = b; winner = a } ∷ []) []))
      go true =
          both (takes F (Defeated o.lower b) && takes F (Signed a)) true
          (both (takes F (Defeated o.lower b)) (takes F (Signed a)) (takes-mark o.lower b y w) z) tt
      go false = tt

  keeps-append : (ds es : List Defeat) → T (each_of keeps_made ds) → T (each_of keeps_made es) → T (each_of keeps_made (ds ++ es))
  keeps-append ds es y z = along (sym (all_append keeps_made ds es)) (both (each_of keeps_made ds) (each_of keeps_made es) y z)

  keeps-by : (o : Override) → T (keeps_override F o) → (xs : List Opposition) → T (each_of (keeps_opposition F) xs) → T (each_of keeps_made (made_by p o xs))
  unfolding made_by made_pair keeps_override keeps_opposition
  keeps-by o k [] j = tt
  keeps-by o k (x ∷ xs) j =
      let tags = first (in_range F.tags o.upper.0 && in_range F.tags o.lower.0) (not (same_tag o.upper o.lower)) k in
      let lower = second (in_range F.tags o.upper.0) (in_range F.tags o.lower.0) tags in
      let options = takes F (Signed x.one) && takes F (Signed x.other) in
      let here = first options (not (same_signed x.one x.other)) (first (keeps_opposition F x) (each_of (keeps_opposition F) xs) j) in
      let one = first (takes F (Signed x.one)) (takes F (Signed x.other)) here in
      let other = second (takes F (Signed x.one)) (takes F (Signed x.other)) here in
      keeps-append (made_way p o x.one x.other ++ made_way p o x.other x.one) (made_by p o xs)
      (keeps-append (made_way p o x.one x.other) (made_way p o x.other x.one) (keeps-way o x.one x.other lower one other)
      (keeps-way o x.other x.one lower other one))
      (keeps-by o k xs (second (keeps_opposition F x) (each_of (keeps_opposition F) xs) j))

  keeps-made : (os : List Override) → T (each_of (keeps_override F) os) → (xs : List Opposition) → T (each_of (keeps_opposition F) xs)
      → T (each_of keeps_made (made p os xs))
  unfolding made
  keeps-made [] k xs j = tt
  keeps-made (o ∷ os) k xs j =
      keeps-append (made_by p o xs) (made p os xs) (keeps-by o (first (keeps_override F o) (each_of (keeps_override F) os) k) xs j)
      (keeps-made os (second (keeps_override F o) (each_of (keeps_override F) os) k) xs j)

  keeps-unless : (done ds : List Defeat) → T (each_of keeps_made ds) → T (each_of keeps_made (unless_before done ds))
  unfolding unless_before
  keeps-unless done [] k = tt
  keeps-unless done (d ∷ ds) k =
      let rest = second (keeps_made d) (each_of keeps_made ds) k in
      go (some_of (same_defeat d) done) (keeps-unless done ds rest) (keeps-unless (d ∷ done) ds rest)
    where
      go : (t : Bool) → T (each_of keeps_made (unless_before done ds)) → T (each_of keeps_made (unless_before (d ∷ done) ds))
          → T (each_of keeps_made (cond t (unless_before done ds) (d ∷ unless_before (d ∷ done) ds)))
      go true y z = y
      go false y z = both (keeps_made d) (each_of keeps_made (unless_before (d ∷ done) ds)) (first (keeps_made d) (each_of keeps_made ds) k) z

  keeps-rules-made : (ds : List Defeat) → T (each_of keeps_made ds) → T (each_of (keeps_defeat F) (map defeat_rule ds))
  unfolding defeat_rule keeps_made
  keeps-rules-made [] k = tt
  keeps-rules-made (d ∷ ds) k =
      let here = first (keeps_made d) (each_of keeps_made ds) k in
      both (keeps_defeat F (defeat_rule d)) (each_of (keeps_defeat F) (map defeat_rule ds))
      (defeat-keeps F d.lower d.loser d.winner (first (takes F (Defeated d.lower d.loser)) (takes F (Signed d.winner)) here)
      (second (takes F (Defeated d.lower d.loser)) (takes F (Signed d.winner)) here))
      (keeps-rules-made ds (second (keeps_made d) (each_of keeps_made ds) k))

-- the program that items within the limits mean: the written rules, and the appended ones
pub expanded_keeps : (F : Limits) → 3 ≤ most_kind F.kinds → (is : List Item) → T (keeps_items F is) → Expanded F (expanded is)
unfolding expanded appended_by appended
expanded_keeps F wide is k =
    let w = kept-items F is k in
    let ds = made (rules is) (overrides is) (oppositions is) in
    record {
      written = rules is;
      appended = appended_by is;
      split = refl;
      keeps = keeps-rules F (rules is) w.rules-few w.rules-each;
      few =
          omega (arith, length-appended is, mul-le-mul w.overrides-few w.oppositions-few);
      each =
          keeps-rules-made F wide (rules is) (unless_before [] ds)
          (keeps-unless F wide (rules is) [] ds
          (keeps-made F wide (rules is) (overrides is) w.overrides-each (oppositions is) w.oppositions-each));
    }

-- what the appended rules add to the length: 17 bytes each
pub expanded-bytes : (F : Limits) → 3 ≤ most_kind F.kinds → (is : List Item) → T (keeps_items F is)
    → program_length (expanded is) ≡ program_length (rules is) + 17 * length (appended_by is)
unfolding expanded_keeps
expanded-bytes F wide is k = expanded-program-length F (expanded is) (expanded_keeps F wide is k)

-- and to the translation's: each is its own translation
pub expanded-translation : (F : Limits) → 3 ≤ most_kind F.kinds → (is : List Item) → T (keeps_items F is)
    → translation_length (expanded is) ≡ translation_length (rules is) + 17 * length (appended_by is)
unfolding expanded_keeps
expanded-translation F wide is k = expanded-translation-length F (expanded is) (expanded_keeps F wide is k)
