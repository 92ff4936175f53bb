-- Laws of a rule's record that is read alone.
-- In order: too short a part; another mark; a rule's mark, and what the record comes to; an accepted record: its rule, its counts and its
-- bytes; the place of a refusal; the record of a rule within the limits.
-- Assumes nothing.
use Prim.Native.Nat.{ℕ, ◌+◌, ◌*◌, ◌≤◌, ◌<◌}
use Rattle.std.specs.Prelude.{Ok, Err}
use native.Mathlib.Omega.{arith}
use mathlib.Core.Path.{◌≡◌, refl, sym, ◌∙◌, ap, subst}
use mathlib.Core.Bool.{Bool, true, false, not, ◌&&◌, true≢false}
use mathlib.Core.Logic.{◌⊎◌, inl, inr}
use mathlib.Core.List.{List, ◌++◌, map}
use lib.Dec.{T, leb→le, leb}
use lib.ListN.{length, take, length-append}
use borrow.Author.Tests.{lt-ltb, le-ltb, ltb-false, leb-false, not-false}
use Rattle.buffer.specs.Bytes.{Bytes, number_at}
use Rattle.literal.specs.declared.Limits.{Limits}
use Rattle.literal.specs.declared.Literal.TheVariants.{Signed}
use Rattle.semantics.specs.Rule.{Rule, strict, defeasible}
use Rattle.semantics.specs.Item.{Item, rule, override, opposition}
use Rattle.semantics.specs.Translation.{record_length}
use Rattle.semantics.specs.Form.{keeps_counts, keeps_rule, keeps_item}
use Rattle.semantics.proofs.Laws.Tests.{first, second, along}
use Rattle.semantics.proofs.Laws.Form.{kept}
use Rattle.record.specs.declared.Reason.TheVariants.{MarkCut, MarkWrong}
use Rattle.record.specs.declared.Refusal.{Refusal}
use Rattle.record.specs.declared.Step.{Step}
use Rattle.record.specs.Header.{head_count, positive_count, naf_count}
use Rattle.record.specs.Refusal.{refusal}
use Rattle.record.specs.Result.{Answer, and_then}
use Rattle.record.specs.Layout.{encoded_rule, encoded_end, encoded_item}
use Rattle.record.specs.Reading.{Mark, RuleMark, OverrideMark, OppositionMark, EndMark, NoMark, Entry, item, end, literals_at, rule_of, body_at, rule_at, mark_at, marked_record, record_at, is_rule, rules_held, entry_size, rule_only}
use Rattle.record.specs.Code.{step_of}
use Rattle.record.proofs.Laws.Result.{accepted-eq, refused-accepted, and-then-accepted, accepted-and-then, refuse-if-accepted, refuse-if-false, refuse-if-true}
use Rattle.record.proofs.Laws.Layout.{length-encoded-rule}
use Rattle.record.proofs.Laws.Places.{Placed, refuse-if-placed, and-then-placed, literals-placed, rule-of-placed}
use Rattle.record.proofs.Laws.Sound.{EntryItem, record-sound}
use Rattle.record.proofs.Laws.Complete.{record-complete, strict-mark, defeasible-mark}

-- an entry's size, by the step that it comes to
step_size : Step → Answer ℕ
step_size (Step.Rule size) = Ok size
step_size (Step.Override size) = Ok size
step_size (Step.Opposition size) = Ok size
step_size Step.End = Err (refusal MarkWrong 0)

step-sized : (e : Answer Entry) → and_then e entry_size ≡ and_then (step_of e) step_size
unfolding and_then entry_size step_size step_of
step-sized (Ok (item (rule r) size)) = refl
step-sized (Ok (item (override o) size)) = refl
step-sized (Ok (item (opposition x) size)) = refl
step-sized (Ok end) = refl
step-sized (Err x) = refl

-- records that come to the same step are as long
pub same-size : (e f : Answer Entry) → step_of e ≡ step_of f → and_then e entry_size ≡ and_then f entry_size
same-size e f p = step-sized e ∙ ap (λ (r : Answer Step). and_then r step_size) p ∙ sym (step-sized f)

-- the size of a record that comes to this step
pub rule_sized : (e : Answer Entry) (size : ℕ) → step_of e ≡ Ok (Step.Rule size) → and_then e entry_size ≡ Ok size
unfolding and_then step_size
rule_sized e size p = step-sized e ∙ ap (λ (r : Answer Step). and_then r step_size) p

pub end-sized : (e : Answer Entry) → step_of e ≡ Ok Step.End → and_then e entry_size ≡ Err (refusal MarkWrong 0)
unfolding and_then step_size
end-sized e p = step-sized e ∙ ap (λ (r : Answer Step). and_then r step_size) p

pub refused-sized : (e : Answer Entry) (x : Refusal) → step_of e ≡ Err x → and_then e entry_size ≡ Err x
unfolding and_then
refused-sized e x p = step-sized e ∙ ap (λ (r : Answer Step). and_then r step_size) p

-- the body of a rule's record is a rule, as long as it says, or refused
module _ (F : Limits) (d : Bool) (t : List ℕ) (h b c : ℕ) where
  body-entry : (e : Entry) → body_at F d t h b c ≡ Ok e → (r : Rule) × (e ≡ item (rule r) (7 + 5 * (h + b + c)))
  unfolding body_at
  body-entry e p =
      let q1 = refuse-if-accepted _ _ _ e p in
      let q2 = and-then-accepted (literals_at F t 7 (h + b + c)) _ e q1.1 in
      let q3 = and-then-accepted (rule_of d (number_at t 2) h b q2.0) _ e q2.2 in
      (q3.0, sym (accepted-eq q3.2))

  pub body-ruled : (size : ℕ) → and_then (body_at F d t h b c) entry_size ≡ Ok size → step_of (body_at F d t h b c) ≡ Ok (Step.Rule size)
  unfolding entry_size step_of
  body-ruled size p =
      let w = and-then-accepted (body_at F d t h b c) entry_size size p in
      let r = body-entry w.0 w.1 in
      let same = accepted-eq (ap entry_size (sym r.1) ∙ w.2) in
      ap step_of (w.1 ∙ ap (λ (e : Entry). Ok e) r.1) ∙ ap (λ (n : ℕ). Ok (Step.Rule n)) same

  pub body_refused : (x : Refusal) → and_then (body_at F d t h b c) entry_size ≡ Err x → step_of (body_at F d t h b c) ≡ Err x
  unfolding and_then entry_size step_of
  body_refused x p = go (body_at F d t h b c) refl p
    where
      go : (q : Answer Entry) → body_at F d t h b c ≡ q → and_then q entry_size ≡ Err x → step_of q ≡ Err x
      go (Ok e) at p =
          let r = body-entry e at in
          absurd (refused-accepted (sym p ∙ ap entry_size r.1))
      go (Err y) at p = let same : y ≡ x = cc in ap Err same

module _ (F : Limits) (n : ℕ) (t : List ℕ) where
  -- 2: fewer than two bytes
  pub only-cut : length t < 2 → rule_only F n t ≡ Err (refusal MarkCut 0)
  unfolding rule_only
  only-cut k = refuse-if-true _ _ _ (lt-ltb (length t) 2 k)

  module _ (whole : 2 ≤ length t) where
    -- 3: the mark is no rule's
    pub only-wrong : is_rule (mark_at F t) ≡ false → rule_only F n t ≡ Err (refusal MarkWrong 0)
    unfolding rule_only
    only-wrong e = refuse-if-false _ _ _ (le-ltb (length t) 2 whole) ∙ refuse-if-true _ _ _ (ap not e)

    -- a rule's mark: what the record is read as
    pub only_step : is_rule (mark_at F t) ≡ true → rule_only F n t ≡ and_then (record_at F (rules_held n) t) entry_size
    unfolding rule_only
    only_step e = refuse-if-false _ _ _ (le-ltb (length t) 2 whole) ∙ refuse-if-false _ _ _ (ap not e)

-- an accepted record, where n rules are held: its mark, header and length, and the rule that reading makes of it
pub record Added (F : Limits) (n : ℕ) (t : List ℕ) (size : ℕ) : Type 0 where
  pub sized : size ≡ 7 + 5 * (head_count t + (positive_count t + naf_count t))
  pub fits : size ≤ length t
  pub room : n < F.rules
  pub counts : T (keeps_counts F (head_count t) (positive_count t) (naf_count t))
  pub rule-of : Rule
  pub read : record_at F (rules_held n) t ≡ Ok (item (rule rule-of) size)

size-eq : (i : Item) (m size : ℕ) → entry_size (item i m) ≡ Ok size → m ≡ size
unfolding entry_size
size-eq i m size e = accepted-eq e

module _ (F : Limits) (n : ℕ) (t : List ℕ) (size : ℕ) where
  rule-added : (d : Bool) (e : Entry) → rule_at F d n t ≡ Ok e → record_at F (rules_held n) t ≡ Ok e → entry_size e ≡ Ok size → Added F n t size
  unfolding rule_at body_at
  rule-added d e q read sizes =
      let a = head_count t in
      let b = positive_count t in
      let c = naf_count t in
      let q1 = refuse-if-accepted _ _ _ e q in
      let q2 = refuse-if-accepted _ _ _ e q1.1 in
      let q3 = refuse-if-accepted _ _ _ e q2.1 in
      let q4 = refuse-if-accepted _ _ _ e q3.1 in
      let q5 = refuse-if-accepted _ _ _ e q4.1 in
      let q6 = and-then-accepted (literals_at F t 7 (a + b + c)) _ e q5.1 in
      let q7 = and-then-accepted (rule_of d (number_at t 2) a b q6.0) _ e q6.2 in
      let whole = 7 + 5 * (a + b + c) in
      let same : item (rule q7.0) whole ≡ e = accepted-eq q7.2 in
      let long = size-eq (rule q7.0) whole size (ap entry_size same ∙ sizes) in
      record {
        sized = omega (arith, long);
        fits = omega (arith, long, ltb-false (length t) whole q5.0);
        room = leb-false F.rules n q2.0;
        counts = along (sym (not-false (keeps_counts F a b c) q4.0)) tt;
        rule-of = q7.0;
        read = read ∙ ap Ok (sym same) ∙ ap (λ (k : ℕ). Ok (item (rule q7.0) k)) long;
      }

  pub only-added : rule_only F n t ≡ Ok size → Added F n t size
  unfolding rule_only is_rule record_at marked_record
  only-added q =
      let q1 = refuse-if-accepted _ _ _ size q in
      let q2 = refuse-if-accepted _ _ _ size q1.1 in
      let q3 = and-then-accepted (record_at F (rules_held n) t) entry_size size q2.1 in
      go (mark_at F t) q3.0 (not-false (is_rule (mark_at F t)) q2.0) (refuse-if-accepted _ _ _ q3.0 q3.1).1 q3.1 q3.2
    where
      go : (m : Mark) (e : Entry) → is_rule m ≡ true → marked_record F m (rules_held n) t ≡ Ok e → record_at F (rules_held n) t ≡ Ok e
          → entry_size e ≡ Ok size → Added F n t size
      go (RuleMark d) e x y z w = rule-added d e y z w
      go OverrideMark e x y z w = absurd (true≢false (sym x))
      go OppositionMark e x y z w = absurd (true≢false (sym x))
      go EndMark e x y z w = absurd (true≢false (sym x))
      go NoMark e x y z w = absurd (true≢false (sym x))

-- its bytes are the rule's record, and the rule is within the limits
module _ (F : Limits) (n : ℕ) (t : List ℕ) (size : ℕ) (bytes : Bytes t) (w : Added F n t size) where
  entry-rule : (e : Entry) → EntryItem F (rules_held n) t e → item (rule w.rule-of) size ≡ e
      → (take size t ≡ encoded_rule w.rule-of) × T (keeps_rule F w.rule-of)
  unfolding encoded_item keeps_item
  entry-rule e v q =
      let items : v.item-read ≡ rule w.rule-of = item-eq (v.same ∙ sym q) in
      let sizes : v.size ≡ size = item-size (v.same ∙ sym q) in (
        subst (λ (k : ℕ). take k t ≡ encoded_item v.item-read) sizes v.read.bytes ∙ ap encoded_item items,
        subst (λ (i : Item). T (keeps_item F i)) items v.read.keeps,
      )
    where
      item-eq : {i j : Item} {a b : ℕ} → item i a ≡ item j b → i ≡ j
      item-eq e = cc

      item-size : {i j : Item} {a b : ℕ} → item i a ≡ item j b → a ≡ b
      item-size e = cc

  pub added-rule : (take size t ≡ encoded_rule w.rule-of) × T (keeps_rule F w.rule-of)
  added-rule =
      go (record-sound F (rules_held n) (record { rules = omega (arith, w.room); overrides = omega arith; oppositions = omega arith }) t bytes _ w.read)
    where
      go : EntryItem F (rules_held n) t (item (rule w.rule-of) size) ⊎ ((end ≡ item (rule w.rule-of) size) × (t ≡ encoded_end n))
          → (take size t ≡ encoded_rule w.rule-of) × T (keeps_rule F w.rule-of)
      go (inl v) = entry-rule _ v refl
      go (inr v) = let z : ◌≡◌ {A = ℕ} 0 1 = cc in absurd (omega arith)

-- a refusal lies within the largest record
module _ (F : Limits) (n : ℕ) (t : List ℕ) where
  body-placed : (d : Bool) → T (keeps_counts F (head_count t) (positive_count t) (naf_count t))
      → Placed (7 + 5 * (F.heads + (F.positives + F.nafs))) (body_at F d t (head_count t) (positive_count t) (naf_count t))
  unfolding body_at keeps_counts
  body-placed d k =
      let a = head_count t in
      let b = positive_count t in
      let c = naf_count t in
      let most = 7 + 5 * (F.heads + (F.positives + F.nafs)) in
      let ha = leb→le a F.heads (first (leb a F.heads) _ k) in
      let bc = second (leb a F.heads) (leb b F.positives && leb c F.nafs) k in
      let hb = leb→le b F.positives (first (leb b F.positives) (leb c F.nafs) bc) in
      let hc = leb→le c F.nafs (second (leb b F.positives) (leb c F.nafs) bc) in
      refuse-if-placed most _ _ _ (omega arith)
      (λ e. and-then-placed most (literals_at F t 7 (a + b + c)) _ (literals-placed F t most (a + b + c) 7 (omega (arith, ha, hb, hc)))
      (λ ls. and-then-placed most (rule_of d (number_at t 2) a b ls) _ (rule-of-placed most d (number_at t 2) a b ls) (λ r. tt)))

  rule-placed : (d : Bool) → Placed (7 + 5 * (F.heads + (F.positives + F.nafs))) (rule_at F d n t)
  unfolding rule_at
  rule-placed d =
      refuse-if-placed _ _ _ _ (omega arith)
      (λ e. refuse-if-placed _ _ _ _ (omega arith)
      (λ e. refuse-if-placed _ _ _ _ (omega arith)
      (λ e. refuse-if-placed _ _ _ _ (omega arith)
      (λ e. body-placed d (along (sym (not-false (keeps_counts F (head_count t) (positive_count t) (naf_count t)) e)) tt)))))

  pub only-placed : Placed (7 + 5 * (F.heads + (F.positives + F.nafs))) (rule_only F n t)
  unfolding rule_only record_at marked_record is_rule entry_size
  only-placed =
      refuse-if-placed _ _ _ _ (omega arith)
      (λ e. refuse-if-placed _ _ _ _ (omega arith)
      (λ f. and-then-placed _ (record_at F (rules_held n) t) entry_size
      (refuse-if-placed _ _ _ _ (omega arith) (λ g. go (mark_at F t) (not-false (is_rule (mark_at F t)) f))) sized))
    where
      go : (m : Mark) → is_rule m ≡ true → Placed (7 + 5 * (F.heads + (F.positives + F.nafs))) (marked_record F m (rules_held n) t)
      go (RuleMark d) x = rule-placed d
      go OverrideMark x = absurd (true≢false (sym x))
      go OppositionMark x = absurd (true≢false (sym x))
      go EndMark x = absurd (true≢false (sym x))
      go NoMark x = absurd (true≢false (sym x))

      sized : (e : Entry) → Placed (7 + 5 * (F.heads + (F.positives + F.nafs))) (entry_size e)
      sized (item i size) = tt
      sized end = omega arith

-- the record of a rule within the limits is accepted, whatever stands behind it
module _ (F : Limits) (rest : List ℕ) where
  rule-mark : (r : Rule) → T (keeps_rule F r) → is_rule (mark_at F (encoded_rule r ++ rest)) ≡ true
  unfolding encoded_rule is_rule
  rule-mark (strict h b c) k = ap is_rule (strict-mark F 0 h b c rest)
  rule-mark (defeasible t h b c) k = ap is_rule (defeasible-mark F t.0 (map Signed h) b c rest (kept F (defeasible t h b c) k).tag.form)

  seven : (r : Rule) → 7 ≤ length (encoded_rule r ++ rest)
  unfolding record_length
  seven (strict h b c) = omega (arith, length-append (encoded_rule (strict h b c)) rest, length-encoded-rule (strict h b c))
  seven (defeasible t h b c) = omega (arith, length-append (encoded_rule (defeasible t h b c)) rest, length-encoded-rule (defeasible t h b c))

  pub only-complete : (n : ℕ) (r : Rule) → T (keeps_rule F r) → n < F.rules → rule_only F n (encoded_rule r ++ rest) ≡ Ok (record_length r)
  unfolding rule_only entry_size
  only-complete n r k room =
      refuse-if-false _ _ _ (le-ltb (length (encoded_rule r ++ rest)) 2 (omega (arith, seven r)))
      ∙ refuse-if-false _ _ _ (ap not (rule-mark r k))
      ∙ ap (λ (e : Answer Entry). and_then e entry_size) (record-complete F r (rules_held n) rest k room)
      ∙ accepted-and-then (item (rule r) (record_length r)) entry_size
