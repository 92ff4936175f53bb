-- Laws of the room for items that are collected: where an item is left, its record has room.
-- In order: the next item among all; an override's record, an opposition's, a rule's; the next record; nothing collected yet.
-- Assumes nothing.
use Prim.Native.Nat.{ℕ, ◌+◌, ◌≤◌}
use native.Mathlib.Omega.{arith}
use mathlib.Core.Path.{◌≡◌, refl, sym, ◌∙◌, ap, subst}
use mathlib.Core.Bool.{Bool, true, false, cond}
use mathlib.Core.List.{List, [], ◌∷◌, ◌++◌}
use lib.Dec.{T, ltb, eqb, ltb→lt}
use lib.ListN.{length, length-append}
use Rattle.buffer.proofs.Laws.Write.{write-nil}
use Rattle.semantics.specs.Set.{each_of}
use Rattle.semantics.specs.Rule.{Rule, Program}
use Rattle.semantics.specs.Expansion.{Override, Opposition}
use Rattle.semantics.specs.Item.{Item, rule, override, opposition, rules, overrides, oppositions}
use Rattle.semantics.proofs.Laws.Tests.{first, second, along, all_append}
use Rattle.semantics.proofs.Laws.Expansion.{rules-append}
use Rattle.record.specs.Header.{override_letter, opposition_letter, letter_of}
use Rattle.record.specs.Layout.{encoded_rule, encoded_rules, encoded_item}
use Rattle.record.proofs.Laws.Layout.{length-encoded-rule, encoded-rules-append}
use Rattle.record_walk.specs.Code.{record_size, item_size}
use Rattle.record_walk.proofs.Laws.Fields.{record-size}
use Rattle.record_walk.proofs.Laws.Items.{StartsItem, starts-rule, size-override, size-opposition, size-rule, item-override, item-opposition, item-rule}
use Rattle.expand_tables.specs.Added.{each_pair}
use Rattle.expand_tables.specs.Code.{place_of, Tables}
use Rattle.expand_tables.proofs.Laws.Added.{length-each-pair}
use Rattle.expand_tables.proofs.Laws.Update.{pairs-none}
use Rattle.expand_collect.specs.Code.{State, state, Room, Collected, OverrideFits, OppositionFits, RuleFits, Collectable, placed_item, Collecting}
use Rattle.expand_collect.proofs.Laws.Collect.{overrides-append, oppositions-append, tags-same, options-same}

-- an item among others, which have room
module _ {out₀ : List ℕ} (r : Room) (is gone behind : List Item) (d : State) (t : List ℕ) (asked : Collecting r is) (c : Collected out₀ gone d)
    (whole : item_size t ≤ length t) where
  -- what it keeps
  here-placed : (i : Item) → is ≡ gone ++ i ∷ behind → T (placed_item r.uppers r.losers i)
  here-placed i split =
      let f = placed_item r.uppers r.losers in
      first (f i) (each_of f behind)
      (second (each_of f gone) (each_of f (i ∷ behind)) (along (ap (each_of f) split ∙ all_append f gone (i ∷ behind)) asked.placed))

  override-fits : (o : Override) → is ≡ gone ++ override o ∷ behind → StartsItem t (override o) → letter_of t ≡ override_letter → OverrideFits t r d.held
  unfolding overrides placed_item encoded_item
  override-fits o split starts letter =
      let tags = tags-same t o starts.rest starts.bytes in
      let places = here-placed (override o) split in
      let upper = ltb→lt o.upper.0 r.uppers (first (ltb o.upper.0 r.uppers) (ltb o.lower.0 r.losers) places) in
      let lower = ltb→lt o.lower.0 r.losers (second (ltb o.upper.0 r.uppers) (ltb o.lower.0 r.losers) places) in
      let count : length (overrides is) ≡ length (overrides gone) + length (o ∷ overrides behind) =
      ap (λ (js : List Item). length (overrides js)) split ∙ ap length (overrides-append gone (override o ∷ behind))
      ∙ length-append (overrides gone) (o ∷ overrides behind) in
      record {
        long = omega (arith, whole, size-override t letter);
        upper = omega (arith, tags.0, upper);
        lower = omega (arith, tags.1, lower);
        room = omega (arith, c.overriding, count, asked.overriding);
        few = omega (arith, c.overriding, count, asked.few);
      }

  opposition-fits : (x : Opposition) → is ≡ gone ++ opposition x ∷ behind → StartsItem t (opposition x) → letter_of t ≡ opposition_letter
      → OppositionFits t r d.held
  unfolding oppositions placed_item encoded_item
  opposition-fits x split starts letter =
      let options = options-same t x starts.rest starts.bytes in
      let places = here-placed (opposition x) split in
      let one = ltb→lt (place_of x.one) 65536 (first (ltb (place_of x.one) 65536) (ltb (place_of x.other) 65536) places) in
      let other = ltb→lt (place_of x.other) 65536 (second (ltb (place_of x.one) 65536) (ltb (place_of x.other) 65536) places) in
      let count : length (oppositions is) ≡ length (oppositions gone) + length (x ∷ oppositions behind) =
      ap (λ (js : List Item). length (oppositions js)) split ∙ ap length (oppositions-append gone (opposition x ∷ behind))
      ∙ length-append (oppositions gone) (x ∷ oppositions behind) in
      let few = length-each-pair [] (oppositions gone) in
      record {
        long = omega (arith, whole, size-opposition t letter);
        one = omega (arith, ap place_of options.0, one);
        other = omega (arith, ap place_of options.1, other);
        room_one = omega (arith, c.opposing, few, count, asked.one);
        room_other = omega (arith, c.opposing, few, count, asked.other);
      }

  rule_fits : (q : Rule) → is ≡ gone ++ rule q ∷ behind → StartsItem t (rule q) → (letter_of t ≡ override_letter → ⊥) → (letter_of t ≡ opposition_letter → ⊥)
      → RuleFits t r d.held
  unfolding rules encoded_rules
  rule_fits q split starts no-over no-oppo =
      let written : rules is ≡ rules gone ++ q ∷ rules behind = ap rules split ∙ rules-append gone (rule q ∷ behind) in
      let count : length (rules is) ≡ length (rules gone) + length (q ∷ rules behind) = ap length written ∙ length-append (rules gone) (q ∷ rules behind) in
      let bytes : length (encoded_rules (rules is)) ≡ length (encoded_rules (rules gone)) + (length (encoded_rule q) + length (encoded_rules (rules behind))) =
      ap (λ (p : Program). length (encoded_rules p)) written ∙ ap length (encoded-rules-append (rules gone) (q ∷ rules behind))
      ∙ length-append (encoded_rules (rules gone)) (encoded_rule q ++ encoded_rules (rules behind))
      ∙ ap (λ (n : ℕ). length (encoded_rules (rules gone)) + n) (length-append (encoded_rule q) (encoded_rules (rules behind))) in
      let size = record-size t q (starts-rule t q starts) ∙ sym (length-encoded-rule q) in
      record {
        whole = omega (arith, whole, size-rule t no-over no-oppo);
        room = omega (arith, c.bytes.next, size, bytes, asked.fits);
        few = omega (arith, c.counted, count, asked.written);
      }

  -- the next item's record
  pub collectable : (i : Item) → is ≡ gone ++ i ∷ behind → StartsItem t i → 1 ≤ length t → Collectable t r d.held
  collectable i split starts some =
      record {
        some = some;
        over = λ e.
            let w = item-override t i starts e in
            override-fits w.0 (split ∙ ap (λ (j : Item). gone ++ j ∷ behind) w.1) (subst (StartsItem t) w.1 starts) e;
        oppo = λ e.
            let w = item-opposition t i starts e in
            opposition-fits w.0 (split ∙ ap (λ (j : Item). gone ++ j ∷ behind) w.1) (subst (StartsItem t) w.1 starts) e;
        other = λ e f.
            let w = item-rule t i starts e f in
            rule_fits w.0 (split ∙ ap (λ (j : Item). gone ++ j ∷ behind) w.1) (subst (StartsItem t) w.1 starts) e f;
      }

-- nothing is collected yet
pub collected-none : (out up low lowers ones others : List ℕ) → Tables [] up low lowers
    → Collected out [] (state out up low lowers ones others (record { to = 0; rules = 0; overrides = 0; pairs = 0 }))
unfolding rules overrides oppositions encoded_rules each_pair
collected-none out up low lowers ones others tables =
    record {
      bytes = record { bytes = sym (write-nil out 0); next = refl };
      same = refl;
      counted = refl;
      overriding = refl;
      tables = tables;
      opposing = refl;
      pairs = pairs-none ones others;
    }

-- a record has six bytes or more
pub size-least : (t : List ℕ) → 6 ≤ item_size t
size-least t = go (eqb (letter_of t) override_letter) (eqb (letter_of t) opposition_letter)
  where
    go : (a b : Bool) → 6 ≤ cond a 6 (cond b 12 (record_size t))
    go true b = omega arith
    go false true = omega arith
    go false false = omega arith
