-- A program read and marked record by record: the reading is what is left of it, and the places of the rules that are gone are marked.
-- In order: the letter of a rule's record, and of the end record; where the loop is; its start; a rule more; the end; a refusal.
-- Assumes nothing.
use Prim.Native.Nat.{ℕ, ◌+◌, ◌*◌, ◌≤◌, ◌<◌}
use Rattle.record.specs.Result.{Answer}
use Rattle.std.specs.Prelude.{Ok, Err, None, Some, Option}
use native.Mathlib.Omega.{arith}
use native.Mathlib.Nat.{add-zero}
use mathlib.Core.Path.{◌≡◌, refl, sym, ap, subst, ◌∙◌}
use mathlib.Core.List.{List, ◌++◌, map}
use mathlib.Core.Logic.{◌⊎◌, inl, inr}
use lib.ListN.{length, get_or, drop, length-drop, take-append-drop}
use lib.Seq.{get_or-drop}
use Rattle.buffer.specs.Bytes.{Bytes}
use Rattle.buffer.proofs.Laws.Bytes.{bytes_drop}
use Rattle.literal.specs.declared.Limits.{Limits}
use Rattle.semantics.specs.Rule.{Rule, strict, defeasible}
use Rattle.semantics.specs.Item.{Item, rule, override, opposition}
use Rattle.record.specs.declared.Reason.TheVariants.{TooLong}
use Rattle.record.specs.declared.Refusal.{Refusal}
use Rattle.record.specs.declared.Step.{Step}
use Rattle.record.specs.declared.Held.{Held}
use Rattle.record.specs.Header.{end_letter, letter_of}
use Rattle.record.specs.Layout.{encoded_end, encoded_item}
use Rattle.record.specs.Refusal.{refusal, shifted}
use Rattle.record.specs.Reading.{item, end, record_at, nothing, holding, items, holding_of, reading}
use Rattle.record.specs.Code.{step_of, found_of, total, left, rule_count}
use Rattle.record.proofs.Laws.Places.{found-place}
use Rattle.record.proofs.Laws.Program.{items-long, items_left, left-next, left_end, left-refused, found-next, found-end, found-size, found-total, rules-counted}
use Rattle.record.proofs.Laws.Sound.{Fitting, ItemRead, EntryItem, record-sound}
use Rattle.record_walk.specs.Code.{Holds, Starts}
use Rattle.record_walk.proofs.Laws.Fields.{strict-fields, defeasible-fields}
use Rattle.record_walk.proofs.Laws.Walk.{Pass, pass-start, pass-next, along-end}
use Rattle.aspif_meaning.specs.Numbering.{occurring}
use Rattle.aspif_place.specs.Code.{words, place, Marks}
use Rattle.aspif_number.specs.Code.{Empty, Gained, Tallied, Placed}
use Rattle.aspif_number.proofs.Laws.Program.{gained-start, gained-next, gained-marks}
use Rattle.aspif_read.specs.Code.{Marked}
use Rattle.aspif_read.proofs.Laws.Body.{rule-marked, end_marked}

module _ (F : Limits) (h : Held) (fitting : Fitting F h) (t : List ℕ) (bytes : Bytes t) where
  -- an item that is read, with what is held then
  item-read : (i : Item) (size : ℕ) → record_at F h t ≡ Ok (item i size) → ItemRead F h t i size
  item-read i size e = go (record-sound F h fitting t bytes (item i size) e)
    where
      go : EntryItem F h t (item i size) ⊎ ((end ≡ item i size) × (t ≡ encoded_end h.rules)) → ItemRead F h t i size
      go (inl m) =
          let same = m.same in
          let this : m.item-read ≡ i = cc in
          let long : m.size ≡ size = cc in
          subst (λ (n : ℕ). ItemRead F h t i n) long (subst (λ (j : Item). ItemRead F h t j m.size) this m.read)
      go (inr q) = let same = q.0 in let z : ◌≡◌ {A = ℕ} 0 1 = cc in absurd (omega (arith, z))

  -- in a form without sheets it is a rule, whose record does not start with E
  pub only-rule : F.sheets ≡ 0 → (i : Item) (size : ℕ) → record_at F h t ≡ Ok (item i size)
      → (step_of (record_at F h t) ≡ Ok (Step.Rule size)) × (letter_of t ≡ end_letter → ⊥)
  unfolding holding step_of encoded_item
  only-rule none i size e = go i (item-read i size e) e
    where
      other : (r : Rule) → Starts t r → letter_of t ≡ end_letter → ⊥
      other (strict h b c) w q = omega (arith, (strict-fields t h b c w).of-letter)
      other (defeasible g h b c) w q = omega (arith, (defeasible-fields t g h b c w).of-letter)

      go : (j : Item) → ItemRead F h t j size → record_at F h t ≡ Ok (item j size)
          → (step_of (record_at F h t) ≡ Ok (Step.Rule size)) × (letter_of t ≡ end_letter → ⊥)
      go (rule r) m w = (
        ap step_of w,
        other r (record { rest = drop size t; bytes = sym (take-append-drop size t) ∙ ap (λ (bs : List ℕ). bs ++ drop size t) m.bytes }),
      )
      go (override o) m w = absurd (omega (arith, m.room.overrides, none))
      go (opposition x) m w = absurd (omega (arith, m.room.oppositions, none))

  -- one that is read as the end does
  pub end-letter : record_at F h t ≡ Ok end → letter_of t ≡ end_letter
  unfolding encoded_end
  end-letter e = go (record-sound F h fitting t bytes end e)
    where
      go : EntryItem F h t end ⊎ ((end ≡ end) × (t ≡ encoded_end h.rules)) → letter_of t ≡ end_letter
      go (inl m) = let same = m.same in let z : ◌≡◌ {A = ℕ} 0 1 = cc in absurd (omega (arith, z))
      go (inr q) = ap letter_of q.1

-- words d became e with their counts; reading s has come to `at`, where h is held
pub record Going (F : Limits) (s d e counts : List ℕ) (at : ℕ) (h : Held) : Type 0 where
  pub within : at ≤ length s
  pub few : 6 * total h ≤ at
  pub fitting : Fitting F h
  pub read : holding_of (items F s) ≡ left F s at h
  pub same : length e ≡ length d
  pub tallied : Tallied e counts
  pub pass : Pass Placed s at (λ gone. Gained d e (map place (occurring gone)))

pub going_start : (F : Limits) (s d counts : List ℕ) → length s ≤ F.length → Tallied d counts → Going F s d d counts 0 nothing
going_start F s d counts short tallied = record {
  within = omega arith;
  few = omega arith;
  fitting = record { rules = omega arith; overrides = omega arith; oppositions = omega arith };
  read = items_left F s short;
  same = refl;
  tallied = tallied;
  pass = pass-start s _ (gained-start d);
}

-- too long a slice
pub going-long : (F : Limits) (s : List ℕ) → F.length < length s → reading F s ≡ Err (refusal TooLong 0)
unfolding rule_count
going-long F s long = rules-counted F s ∙ ap rule_count (items-long F s long)

-- the record at `at`, which starts the part t, was told to be r, and behind it is found x
module _ {F : Limits} {s d e counts : List ℕ} {at : ℕ} {h : Held} (g : Going F s d e counts at h) (t : List ℕ) (part : t ≡ drop at s)
    (r : Answer Step) (told : r ≡ step_of (record_at F h t)) (x : Answer (Option (ℕ × Held))) (behind : x ≡ found_of h r) where
  step-here : step_of (record_at F h (drop at s)) ≡ r
  step-here = ap (λ (bs : List ℕ). step_of (record_at F h bs)) (sym part) ∙ sym told

  found_here : found_of h (step_of (record_at F h (drop at s))) ≡ x
  found_here = ap (found_of h) step-here ∙ sym behind

  early : total h ≤ length s
  early = omega (arith, g.few, g.within)

  letter-here : get_or s at 0 ≡ letter_of (drop at s)
  letter-here = ap (λ (i : ℕ). get_or s i 0) (sym (add-zero at)) ∙ sym (get_or-drop at s 0 0)

  -- an item: its record has six bytes or more, and lies within the slice
  pub going-size : (size : ℕ) (more : Held) → x ≡ Ok (Some (size, more)) → (6 ≤ size) × (at + size ≤ length s)
  going-size size more e =
      let sized = found-size F h (drop at s) size more (found_here ∙ e) in
      (sized.large, omega (arith, sized.fits, length-drop at s, g.within))

  pub going_next : Bytes s → F.sheets ≡ 0 → (size : ℕ) (more : Held) → x ≡ Ok (Some (size, more)) → (f counts' : List ℕ) → Marked t e f r → Tallied f counts'
      → Going F s d f counts' (at + size) more
  going_next bytes none size more e f counts' marked tallied =
      let sized = going-size size more e in
      let w = found-next h (record_at F h (drop at s)) size more (found_here ∙ e) in
      let here = bytes_drop at s bytes in
      let one = only-rule F h g.fitting (drop at s) here none w.0 size w.1 in
      let m = rule-marked t _ _ r size (sym step-here ∙ one.0) marked in
      record {
        within = sized.1;
        few = omega (arith, sized.0, g.few, found-total F h (drop at s) size more (found_here ∙ e));
        fitting = subst (Fitting F) w.2 (item-read F h g.fitting (drop at s) here w.0 size w.1).room;
        read = g.read ∙ left-next F s at h early size more (found_here ∙ e);
        same = m.gained.same ∙ g.same;
        tallied = tallied;
        pass =
            pass-next g.pass (λ letter. one.1 (sym letter-here ∙ letter)) t part size m.whole (λ gone. Gained d f (map place (occurring gone)))
            (λ w a more. gained-next more a.made m.gained);
      }

  -- the end: what was read, and what is marked
  pub going-count : x ≡ Ok None → reading F s ≡ Ok h.rules
  unfolding rule_count
  going-count e = rules-counted F s ∙ ap rule_count (g.read ∙ left_end F s at h early (found_here ∙ e))

  pub going-marks : Bytes s → x ≡ Ok None → length d ≡ words → Empty d → (f : List ℕ) → Marked t e f r → (w : Holds Placed s) → Marks w.program f
  unfolding step_of
  going-marks bytes q long empty f marked w =
      let ended = found-end h (record_at F h (drop at s)) (found_here ∙ q) in
      let letter = letter-here ∙ end-letter F h g.fitting (drop at s) (bytes_drop at s bytes) ended in
      subst (Marks w.program) (sym (end_marked t e f r (sym step-here ∙ ap step_of ended) marked))
      (gained-marks d e w.program long empty (along-end (g.pass w) letter))

  -- a refusal, and its place
  pub going-refused : (y : Refusal) → x ≡ Err y → reading F s ≡ Err (shifted at y)
  unfolding rule_count
  going-refused y e = rules-counted F s ∙ ap rule_count (g.read ∙ left-refused F s at h early y (found_here ∙ e))

  pub going-place : (y : Refusal) → x ≡ Err y → at + y.place ≤ length s
  going-place y e = omega (arith, found-place F h (drop at s) y (found_here ∙ e), length-drop at s, g.within)
