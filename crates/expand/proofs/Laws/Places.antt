-- Laws of places: each tag and each option of items within the limits has one.
-- In order: options; rules; overrides and oppositions; what is collected of such items; their lower tags and pairs as places; arrays of
-- zeros.
-- Assumes nothing.
use Prim.Native.Nat.{ℕ, zero, suc, ◌+◌, ◌*◌, ◌≤◌, ◌<◌}
use native.Mathlib.Omega.{arith}
use mathlib.Core.Path.{◌≡◌, refl, sym, ◌∙◌, ap}
use mathlib.Core.Bool.{not, ◌&&◌}
use mathlib.Core.List.{List, [], ◌∷◌, map}
use lib.Dec.{T, ltb, leb, lt→ltb, ltb→lt}
use lib.ListN.{length, get_or, take, replicate, length-replicate}
use lib.Seq.{get_or-take}
use Rattle.literal.specs.declared.Limits.{Limits}
use Rattle.literal.specs.declared.SignedAtom.{SignedAtom}
use Rattle.literal.specs.declared.SignedAtom.TheVariants.{Positive, Negative}
use Rattle.literal.specs.declared.Literal.TheVariants.{Signed}
use Rattle.literal.specs.Literal.{atom_number, in_range, ranged, takes}
use Rattle.literal.proofs.Laws.Literal.{in-range, takes-ranged}
use Rattle.semantics.specs.Set.{each_of, same_tag, same_signed}
use Rattle.semantics.specs.Rule.{Rule, strict, defeasible, head}
use Rattle.semantics.specs.Expansion.{Override, Opposition}
use Rattle.semantics.specs.Item.{Item, rule, override, opposition, rules, overrides, oppositions}
use Rattle.semantics.specs.Form.{keeps_rule, keeps_override, keeps_opposition, keeps_item, keeps_items}
use Rattle.semantics.proofs.Laws.Tests.{both, first, second, all-mem, all-intro, all_map, along}
use Rattle.semantics.proofs.Laws.Form.{kept}
use Rattle.semantics.proofs.Laws.Expansion.{kept-items}
use Rattle.expand_tables.specs.Added.{each_pair}
use Rattle.expand_tables.specs.Code.{tag_places, option_places, sheet_places, place_of, Tables, Pairs}
use Rattle.expand_tables.proofs.Laws.Added.{Differ, each-pair-keeps, length-each-pair}
use Rattle.expand_heads.specs.Code.{placed, Placed}
use Rattle.expand_collect.specs.Code.{State, Room, placed_item, Collecting}
use Rattle.expand_rules.specs.Code.{Below}
use Rattle.expand.specs.Code.{Expandable, Arrays, Appendable}

-- a tag within the limits, and an option's place
tag_below : (F : Limits) (n : ℕ) → F.tags < tag_places → T (in_range F.tags n) → n < tag_places
tag_below F n h y = omega (arith, in-range F.tags n y)

place-most : (a : SignedAtom) → place_of a ≤ 2 * atom_number a + 1
unfolding place_of
place-most (Positive a) = omega arith
place-most (Negative a) = omega arith

option-below : (F : Limits) (a : SignedAtom) → 2 * F.atoms + 1 < option_places → T (takes F (Signed a)) → place_of a < option_places
unfolding ranged
option-below F a h y = omega (arith, place-most a, in-range F.atoms (atom_number a) (takes-ranged F (Signed a) y))

-- of items that can be expanded
module _ (most : ℕ) (is : List Item) (x : Expandable most is) where
  abbrev F : Limits
  F = x.form

  -- a rule within the limits has places
  rule-placed : (r : Rule) → T (keeps_rule F r) → T (placed tag_places option_places r)
  unfolding placed head
  rule-placed (strict h b c) k = tt
  rule-placed (defeasible t h b c) k =
      let w = kept F (defeasible t h b c) k in
      both (ltb t.0 tag_places) (each_of (λ a. ltb (place_of a) option_places) h)
      (lt→ltb t.0 tag_places (tag_below F t.0 x.tags w.tag.range))
      (all-intro (λ a. ltb (place_of a) option_places) h
      (λ a m. lt→ltb (place_of a) option_places
      (option-below F a x.atoms (all-mem (λ b. takes F (Signed b)) (along (all_map (takes F) Signed h) w.head-taken) m))))

  pub rules-placed : Placed tag_places option_places (rules is)
  rules-placed =
      all-intro (placed tag_places option_places) (rules is) (λ r m. rule-placed r (all-mem (keeps_rule F) (kept-items F is x.keeps).rules-each m))

  -- an override's tags, an opposition's options
  record Tags (o : Override) : Type 0 where
    pub upper : o.upper.0 < tag_places
    lower : o.lower.0 < tag_places

  override-placed : (o : Override) → T (keeps_override F o) → Tags o
  unfolding keeps_override
  override-placed o k =
      let tags = first (in_range F.tags o.upper.0 && in_range F.tags o.lower.0) (not (same_tag o.upper o.lower)) k in
      record {
        upper = tag_below F o.upper.0 x.tags (first (in_range F.tags o.upper.0) (in_range F.tags o.lower.0) tags);
        lower = tag_below F o.lower.0 x.tags (second (in_range F.tags o.upper.0) (in_range F.tags o.lower.0) tags);
      }

  record Options (y : Opposition) : Type 0 where
    one : place_of y.one < option_places
    other : place_of y.other < option_places
    differ : T (not (same_signed y.one y.other))

  opposition-placed : (y : Opposition) → T (keeps_opposition F y) → Options y
  unfolding keeps_opposition
  opposition-placed y k =
      let pair = takes F (Signed y.one) && takes F (Signed y.other) in
      let options = first pair (not (same_signed y.one y.other)) k in
      record {
        one = option-below F y.one x.atoms (first (takes F (Signed y.one)) (takes F (Signed y.other)) options);
        other = option-below F y.other x.atoms (second (takes F (Signed y.one)) (takes F (Signed y.other)) options);
        differ = second pair (not (same_signed y.one y.other)) k;
      }

  pub oppositions-differ : Differ (oppositions is)
  oppositions-differ =
      all-intro (λ y. not (same_signed y.one y.other)) (oppositions is)
      (λ y m. (opposition-placed y (all-mem (keeps_opposition F) (kept-items F is x.keeps).oppositions-each m)).differ)

  -- items have places
  item-placed : (i : Item) → T (keeps_item F i) → T (placed_item tag_places tag_places i)
  unfolding placed_item keeps_item
  item-placed (rule r) k = tt
  item-placed (override o) k =
      let w = override-placed o k in
      both (ltb o.upper.0 tag_places) (ltb o.lower.0 tag_places) (lt→ltb o.upper.0 tag_places w.upper) (lt→ltb o.lower.0 tag_places w.lower)
  item-placed (opposition y) k =
      let w = opposition-placed y k in
      both (ltb (place_of y.one) 65536) (ltb (place_of y.other) 65536) (lt→ltb (place_of y.one) 65536 (omega (arith, w.one)))
      (lt→ltb (place_of y.other) 65536 (omega (arith, w.other)))

  items-placed : T (each_of (placed_item tag_places tag_places) is)
  unfolding keeps_items
  items-placed =
      let sheets = leb (length (overrides is)) F.sheets && leb (length (oppositions is)) F.sheets in
      let each = second (leb (length (rules is)) F.rules && sheets) (each_of (keeps_item F) is) x.keeps in
      all-intro (placed_item tag_places tag_places) is (λ i m. item-placed i (all-mem (keeps_item F) each m))

  -- and room to be collected
  pub collecting : (r : Room) → r.bytes ≡ most → r.uppers ≡ tag_places → r.losers ≡ tag_places → r.overrides ≡ sheet_places → r.ones ≡ sheet_places
      → r.others ≡ sheet_places → Collecting r is
  collecting r bytes uppers losers overs ones others =
      let w = kept-items F is x.keeps in
      record {
        fits = omega (arith, x.room, bytes);
        written = omega (arith, w.rules-few, x.rules);
        overriding = omega (arith, w.overrides-few, x.sheets, overs);
        few = omega (arith, w.overrides-few, x.sheets);
        one = omega (arith, w.oppositions-few, x.sheets, ones);
        other = omega (arith, w.oppositions-few, x.sheets, others);
        placed = rw (uppers, losers) items-placed;
      }

-- the numbers of a list, and those in an array that starts with them
map_below : {A : Type 0} (f : A → ℕ) (b : ℕ) (xs : List A) → T (each_of (λ x. ltb (f x) b) xs) → (i : ℕ) → i < length xs → get_or (map f xs) i 0 < b
map_below f b [] k i h = absurd (omega arith)
map_below f b (x ∷ xs) k zero h = ltb→lt (f x) b (first (ltb (f x) b) (each_of (λ y. ltb (f y) b) xs) k)
map_below f b (x ∷ xs) k (suc i) h = map_below f b xs (second (ltb (f x) b) (each_of (λ y. ltb (f y) b) xs) k) i (omega arith)

front_below : {A : Type 0} (f : A → ℕ) (b : ℕ) (xs : List A) (ns : List ℕ) (n : ℕ) → n ≡ length xs → take (length xs) ns ≡ map f xs
    → T (each_of (λ x. ltb (f x) b) xs) → Below ns n b
front_below f b xs ns n count front each i h =
    let same : get_or ns i 0 ≡ get_or (map f xs) i 0 = sym (get_or-take (length xs) ns i 0 (omega (arith, count))) ∙ ap (λ (l : List ℕ). get_or l i 0) front in
    omega (arith, same, map_below f b xs each i (omega (arith, count)))

-- the lower tags and the pairs that are collected of items within the limits
module _ (most : ℕ) (is : List Item) (x : Expandable most is) where
  lowers-below : (up low lowers : List ℕ) (n : ℕ) → n ≡ length (overrides is) → Tables (overrides is) up low lowers → Below lowers n tag_places
  lowers-below up low lowers n count w =
      front_below (λ o. o.lower.0) tag_places (overrides is) lowers n count w.tags
      (all-intro (λ o. ltb o.lower.0 tag_places) (overrides is)
      (λ o m. lt→ltb o.lower.0 tag_places
      (override-placed most is x o (all-mem (keeps_override x.form) (kept-items x.form is x.keeps).overrides-each m)).lower))

  module _ (ones others : List ℕ) (m : ℕ) (count : m ≡ length (each_pair [] (oppositions is))) (w : Pairs (each_pair [] (oppositions is)) ones others) where
    -- each opposition's, and so each pair's
    each_placed : (f : Opposition → ℕ) → ((y : Opposition) → T (keeps_opposition x.form y) → f y < option_places)
        → T (each_of (λ y. ltb (f y) option_places) (each_pair [] (oppositions is)))
    each_placed f h =
        each-pair-keeps (λ y. ltb (f y) option_places) [] (oppositions is) tt
        (all-intro (λ y. ltb (f y) option_places) (oppositions is)
        (λ y m. lt→ltb (f y) option_places (h y (all-mem (keeps_opposition x.form) (kept-items x.form is x.keeps).oppositions-each m))))

    ones_below : Below ones m option_places
    ones_below =
        front_below (λ y. place_of y.one) option_places (each_pair [] (oppositions is)) ones m count w.one
        (each_placed (λ y. place_of y.one) (λ y k. (opposition-placed most is x y k).one))

    others_below : Below others m option_places
    others_below =
        front_below (λ y. place_of y.other) option_places (each_pair [] (oppositions is)) others m count w.other
        (each_placed (λ y. place_of y.other) (λ y k. (opposition-placed most is x y k).other))

-- the figures and the numbers that are collected are within the arrays
pub record Reach (d : State) (options : ℕ) : Type 0 where
  pub few : d.held.overrides ≤ 64
  pub lowers : d.held.overrides ≤ length d.lowers
  pub tags : Below d.lowers d.held.overrides (length d.low)
  pub ones : d.held.pairs ≤ length d.ones
  pub others : d.held.pairs ≤ length d.others
  pub one-places : Below d.ones d.held.pairs options
  pub other-places : Below d.others d.held.pairs options

pub reach : {d : State} {win lose : List ℕ} (w : Appendable d win lose) (options : ℕ) → options ≡ option_places → Reach d options
reach {d} w options e =
    let x = w.asked in
    let k = w.fronted in
    let most = length w.came in
    let kept = kept-items x.form w.items x.keeps in
    let pairs = length-each-pair [] (oppositions w.items) in
    record {
      few = omega (arith, k.overriding, kept.overrides-few, x.sheets);
      lowers = omega (arith, k.overriding, kept.overrides-few, x.sheets, w.lowers_long);
      tags = rw w.low_long (lowers-below most w.items x d.up d.low d.lowers d.held.overrides k.overriding k.tables);
      ones = omega (arith, k.opposing, pairs, kept.oppositions-few, x.sheets, w.ones_long);
      others = omega (arith, k.opposing, pairs, kept.oppositions-few, x.sheets, w.others_long);
      one-places = rw e (ones_below most w.items x d.ones d.others d.held.pairs k.opposing k.pairs);
      other-places = rw e (others_below most w.items x d.ones d.others d.held.pairs k.opposing k.pairs);
    }

-- arrays of zeros
pub zeros : (n i : ℕ) → ◌≡◌ {A = ℕ} (get_or (replicate n 0) i 0) 0
zeros zero i = refl
zeros (suc n) zero = refl
zeros (suc n) (suc i) = zeros n i

pub empty-arrays : (t s : ℕ) → t ≡ tag_places → s ≡ sheet_places → Arrays (replicate t 0) (replicate t 0) (replicate s 0) (replicate s 0) (replicate s 0)
empty-arrays t s et es =
    record {
      up_long = length-replicate t 0 ∙ et;
      low_long = length-replicate t 0 ∙ et;
      lowers_long = length-replicate s 0 ∙ es;
      ones_long = length-replicate s 0 ∙ es;
      others_long = length-replicate s 0 ∙ es;
      up_empty = zeros t;
      low_empty = zeros t;
    }
