-- What reading accepts: an accepted record is the encoding of its item, which keeps the form's limits.
-- In order: a run of literals; the first bytes; marks; the rule; sheet records; one record; the file.
-- Assumes nothing.
use Prim.Native.Nat.{ℕ, zero, suc, ◌+◌, ◌*◌, ◌≤◌, ◌<◌}
use Rattle.std.specs.Prelude.{Ok, Err}
use native.Mathlib.Omega.{arith}
use mathlib.Core.Path.{◌≡◌, refl, sym, ◌∙◌, ap, ap₂, subst}
use mathlib.Core.Bool.{Bool, true, false, not, ◌&&◌, true≢false}
use mathlib.Core.Logic.{◌⊎◌, inl, inr}
use mathlib.Core.List.{List, [], ◌∷◌, ◌++◌, map, append_assoc}
use mathlib.Core.Option.{Option, none, some}
use lib.Dec.{T, ltb, leb, eqb, eqb→eq, le→leb}
use lib.ListN.{length, get_or, take, drop, length-take, length-drop, take-append-drop, length-map}
use lib.Seq.{take-add, drop-drop}
use borrow.Author.Tests.{ltb-false, leb-false, not-false}
use Rattle.buffer.specs.Bytes.{Bytes, two_bytes, number_at}
use Rattle.buffer.proofs.Laws.Bytes.{bytes_drop, two_bytes-number}
use Rattle.literal.specs.declared.Limits.{Limits}
use Rattle.literal.specs.declared.SignedAtom.{SignedAtom}
use Rattle.literal.specs.declared.Literal.{Literal}
use Rattle.literal.specs.declared.Literal.TheVariants.{Signed, Defeated, Derived, RuleDefeated}
use Rattle.literal.specs.Literal.{Decoded, Valid, Wrong, encoded, decoded, takes, in_range}
use Rattle.literal.proofs.Laws.Literal.{encoded-decoded}
use Rattle.semantics.specs.Set.{each_of, same_signed}
use Rattle.semantics.specs.Rule.{Rule, strict, defeasible, head, positive, naf}
use Rattle.semantics.specs.Item.{Item, rule, override, opposition}
use Rattle.semantics.specs.Form.{keeps_counts, keeps_literals, keeps_tag, keeps_rule, keeps_override, keeps_opposition, keeps_item}
use Rattle.semantics.proofs.Laws.Tests.{both, first, second, along, all_append}
use Rattle.record.specs.declared.Reason.TheVariants.{LiteralWrong, HeadWrong}
use Rattle.record.specs.declared.Held.{Held}
use Rattle.record.specs.Header.{strict_letter, defeasible_letter, end_letter, override_letter, opposition_letter, letter_of, head_count, positive_count, naf_count, colon}
use Rattle.record.specs.Refusal.{refusal, shifted}
use Rattle.record.specs.Result.{Answer, and_then}
use Rattle.record.specs.Layout.{encoded_literals, rule_record, encoded_rule, encoded_end, encoded_override, encoded_opposition, encoded_item, encoded_items}
use Rattle.record.specs.Reading.{Mark, RuleMark, OverrideMark, OppositionMark, EndMark, NoMark, Entry, item, end, literals_at, options_of, defeasible_rule, rule_of, tag_right, body_at, rule_at, override_at, signed_of, signed_at, opposition_of, opposition_at, end_at, marked, pick_mark, mark_at, marked_record, record_at, holding, items_from}
use Rattle.record.specs.Code.{held_on}
use Rattle.record.proofs.Laws.Result.{refused-accepted, accepted-eq, and-then-accepted, refuse-if-accepted}

-- a run of n literals
pub record Run (F : Limits) (bs : List ℕ) (n : ℕ) (ls : List Literal) : Type 0 where
  pub bytes : take (5 * n) bs ≡ encoded_literals ls
  pub taken : T (each_of (takes F) ls)
  pub count : length ls ≡ n

run-cons : (F : Limits) (bs : List ℕ) (n : ℕ) (l : Literal) (ls : List Literal) → (take 5 bs ≡ encoded l) × T (takes F l)
    → Run F (drop 5 bs) n ls → Run F bs (suc n) (l ∷ ls)
unfolding encoded_literals
run-cons F bs n l ls h r =
    record {
      bytes = ap (λ (k : ℕ). take k bs) five-more ∙ take-add 5 (5 * n) bs ∙ ap₂ (λ (x y : List ℕ). x ++ y) h.0 r.bytes;
      taken = both (takes F l) (each_of (takes F) ls) h.1 r.taken;
      count = ap suc r.count;
    }
  where
    five-more : 5 * suc n ≡ 5 + 5 * n
    five-more = omega arith

module _ (F : Limits) where
  pub literals-sound : (t : List ℕ) → Bytes t → (n at : ℕ) (ls : List Literal) → at + 5 * n ≤ length t
      → literals_at F t at n ≡ Ok ls → Run F (drop at t) n ls
  unfolding literals_at encoded_literals
  literals-sound t bytes zero at ls fits e =
      let nil : [] ≡ ls = accepted-eq e in
      record {
        bytes = ap encoded_literals nil;
        taken = subst (λ (ms : List Literal). T (each_of (takes F) ms)) nil tt;
        count = ap length (sym nil);
      }
  literals-sound t bytes (suc n) at ls fits e =
      go (decoded F (drop at t)) refl e (λ ms z. literals-sound t bytes n (at + 5) ms (omega arith) z)
    where
      after : Decoded → Answer (List Literal)
      after d = elim d [ Valid l ↦ and_then (literals_at F t (at + 5) n) (λ ls. Ok (l ∷ ls)) | Wrong ↦ Err (refusal LiteralWrong at) ]

      go : (d : Decoded) → decoded F (drop at t) ≡ d → after d ≡ Ok ls
          → ((ms : List Literal) → literals_at F t (at + 5) n ≡ Ok ms → Run F (drop (at + 5) t) n ms) → Run F (drop at t) (suc n) ls
      go Wrong q f ih = absurd (refused-accepted f)
      go (Valid l) q f ih =
          let w = and-then-accepted (literals_at F t (at + 5) n) (λ ms. Ok (l ∷ ms)) ls f in
          let here = encoded-decoded F (drop at t) l (bytes_drop at t bytes) (omega (arith, length-drop at t)) q in
          let rest = rw (← drop-drop 5 at t) at (ih w.0 w.1) in
          subst (Run F (drop at t) (suc n)) (accepted-eq w.2) (run-cons F (drop at t) n l w.0 here rest)

-- a list's first seven elements
first-seven : (t : List ℕ) → 7 ≤ length t → take 7 t ≡ letter_of t ∷ get_or t 1 0 ∷ get_or t 2 0 ∷ get_or t 3 0 ∷ head_count t ∷ positive_count t ∷ naf_count t ∷ []
first-seven [] h = absurd (omega arith)
first-seven (a ∷ []) h = absurd (omega arith)
first-seven (a ∷ b ∷ []) h = absurd (omega arith)
first-seven (a ∷ b ∷ c ∷ []) h = absurd (omega arith)
first-seven (a ∷ b ∷ c ∷ d ∷ []) h = absurd (omega arith)
first-seven (a ∷ b ∷ c ∷ d ∷ e ∷ []) h = absurd (omega arith)
first-seven (a ∷ b ∷ c ∷ d ∷ e ∷ f ∷ []) h = absurd (omega arith)
first-seven (a ∷ b ∷ c ∷ d ∷ e ∷ f ∷ g ∷ t) h = refl

first-six : (t : List ℕ) → 6 ≤ length t → take 6 t ≡ letter_of t ∷ get_or t 1 0 ∷ get_or t 2 0 ∷ get_or t 3 0 ∷ get_or t 4 0 ∷ get_or t 5 0 ∷ []
first-six [] h = absurd (omega arith)
first-six (a ∷ []) h = absurd (omega arith)
first-six (a ∷ b ∷ []) h = absurd (omega arith)
first-six (a ∷ b ∷ c ∷ []) h = absurd (omega arith)
first-six (a ∷ b ∷ c ∷ d ∷ []) h = absurd (omega arith)
first-six (a ∷ b ∷ c ∷ d ∷ e ∷ []) h = absurd (omega arith)
first-six (a ∷ b ∷ c ∷ d ∷ e ∷ f ∷ t) h = refl

first_two : (t : List ℕ) → 2 ≤ length t → take 2 t ≡ letter_of t ∷ get_or t 1 0 ∷ []
first_two [] h = absurd (omega arith)
first_two (a ∷ []) h = absurd (omega arith)
first_two (a ∷ b ∷ t) h = refl

first-four : (t : List ℕ) → length t ≡ 4 → t ≡ letter_of t ∷ get_or t 1 0 ∷ get_or t 2 0 ∷ get_or t 3 0 ∷ []
first-four [] h = absurd (omega arith)
first-four (a ∷ []) h = absurd (omega arith)
first-four (a ∷ b ∷ []) h = absurd (omega arith)
first-four (a ∷ b ∷ c ∷ []) h = absurd (omega arith)
first-four (a ∷ b ∷ c ∷ d ∷ []) h = refl
first-four (a ∷ b ∷ c ∷ d ∷ e ∷ t) h = absurd (omega arith)

-- the letter of a rule's mark
letter : Bool → ℕ
letter true = defeasible_letter
letter false = strict_letter

rule-mark-eq : {d e : Bool} → RuleMark d ≡ RuleMark e → d ≡ e
rule-mark-eq h = cc

-- which mark it is, as a number
mark_number : Mark → ℕ
mark_number (RuleMark d) = 0
mark_number OverrideMark = 1
mark_number OppositionMark = 2
mark_number EndMark = 3
mark_number NoMark = 4

-- a rule's mark: S:, or D: in a form with defeasible rules
record MarkIs (F : Limits) (t : List ℕ) (d : Bool) : Type 0 where
  letters : T (marked (letter d) t)
  form : T d → T F.defeasible

-- marks of different numbers differ
other-mark : {A : Type 0} (m n : Mark) → m ≡ n → (mark_number m ≡ mark_number n → ⊥) → A
other-mark m n e f = absurd (f (ap mark_number e))

module _ (F : Limits) (t : List ℕ) where
  pick-rule : (a b o x c d : Bool) → (T a → T (marked strict_letter t))
      → (T b → T (marked defeasible_letter t && F.defeasible)) → pick_mark a b o x c ≡ RuleMark d → MarkIs F t d
  unfolding pick_mark letter mark_number
  pick-rule true b o x c true f g e = absurd (true≢false (rule-mark-eq (sym e)))
  pick-rule true b o x c false f g e = record { letters = f tt; form = λ z. absurd z }
  pick-rule false true o x c true f g e =
      record { letters = first (marked defeasible_letter t) F.defeasible (g tt); form = λ z. second (marked defeasible_letter t) F.defeasible (g tt) }
  pick-rule false true o x c false f g e = absurd (true≢false (rule-mark-eq e))
  pick-rule false false true x c d f g e = other-mark OverrideMark (RuleMark d) e (λ z. omega arith)
  pick-rule false false false true c d f g e = other-mark OppositionMark (RuleMark d) e (λ z. omega arith)
  pick-rule false false false false true d f g e = other-mark EndMark (RuleMark d) e (λ z. omega arith)
  pick-rule false false false false false d f g e = other-mark NoMark (RuleMark d) e (λ z. omega arith)

  mark-rule : (d : Bool) → mark_at F t ≡ RuleMark d → MarkIs F t d
  unfolding mark_at
  mark-rule d e =
      pick-rule (marked strict_letter t) (marked defeasible_letter t && F.defeasible) (marked override_letter t && ltb 0 F.sheets)
      (marked opposition_letter t && ltb 0 F.sheets) (marked end_letter t) d (λ z. z) (λ z. z) e

  mark-override : mark_at F t ≡ OverrideMark → T (marked override_letter t)
  unfolding mark_at pick_mark mark_number
  mark-override e =
      first (marked override_letter t) (ltb 0 F.sheets)
      (go (marked strict_letter t) (marked defeasible_letter t && F.defeasible) (marked override_letter t && ltb 0 F.sheets)
      (marked opposition_letter t && ltb 0 F.sheets) (marked end_letter t) e)
    where
      go : (a b o x c : Bool) → pick_mark a b o x c ≡ OverrideMark → T o
      go true b o x c f = other-mark (RuleMark false) OverrideMark f (λ z. omega arith)
      go false true o x c f = other-mark (RuleMark true) OverrideMark f (λ z. omega arith)
      go false false true x c f = tt
      go false false false true c f = other-mark OppositionMark OverrideMark f (λ z. omega arith)
      go false false false false true f = other-mark EndMark OverrideMark f (λ z. omega arith)
      go false false false false false f = other-mark NoMark OverrideMark f (λ z. omega arith)

  mark-opposition : mark_at F t ≡ OppositionMark → T (marked opposition_letter t)
  unfolding mark_at pick_mark mark_number
  mark-opposition e =
      first (marked opposition_letter t) (ltb 0 F.sheets)
      (go (marked strict_letter t) (marked defeasible_letter t && F.defeasible) (marked override_letter t && ltb 0 F.sheets)
      (marked opposition_letter t && ltb 0 F.sheets) (marked end_letter t) e)
    where
      go : (a b o x c : Bool) → pick_mark a b o x c ≡ OppositionMark → T x
      go true b o x c f = other-mark (RuleMark false) OppositionMark f (λ z. omega arith)
      go false true o x c f = other-mark (RuleMark true) OppositionMark f (λ z. omega arith)
      go false false true x c f = other-mark OverrideMark OppositionMark f (λ z. omega arith)
      go false false false true c f = tt
      go false false false false true f = other-mark EndMark OppositionMark f (λ z. omega arith)
      go false false false false false f = other-mark NoMark OppositionMark f (λ z. omega arith)

  mark-end : mark_at F t ≡ EndMark → T (marked end_letter t)
  unfolding mark_at pick_mark mark_number
  mark-end e =
      go (marked strict_letter t) (marked defeasible_letter t && F.defeasible) (marked override_letter t && ltb 0 F.sheets)
      (marked opposition_letter t && ltb 0 F.sheets) (marked end_letter t) e
    where
      go : (a b o x c : Bool) → pick_mark a b o x c ≡ EndMark → T c
      go true b o x c f = other-mark (RuleMark false) EndMark f (λ z. omega arith)
      go false true o x c f = other-mark (RuleMark true) EndMark f (λ z. omega arith)
      go false false true x c f = other-mark OverrideMark EndMark f (λ z. omega arith)
      go false false false true c f = other-mark OppositionMark EndMark f (λ z. omega arith)
      go false false false false true f = tt
      go false false false false false f = other-mark NoMark EndMark f (λ z. omega arith)

-- options are the head literals
options-of : (ls : List Literal) (h : List SignedAtom) → options_of ls ≡ some h → map Signed h ≡ ls
unfolding options_of
options-of [] h e = let nil : [] ≡ h = cc in ap (map Signed) (sym nil)
options-of (Signed a ∷ ls) h e = go (options_of ls) e (λ k q. options-of ls k q)
  where
    go : (o : Option (List SignedAtom)) → (elim o as (λ x. Option (List SignedAtom)) [ some k ↦ some (a ∷ k) | none ↦ none ]) ≡ some h
        → ((k : List SignedAtom) → o ≡ some k → map Signed k ≡ ls) → map Signed h ≡ Signed a ∷ ls
    go none f ih = let z : ◌≡◌ {A = ℕ} 0 1 = cc in absurd (omega arith)
    go (some k) f ih = let q : a ∷ k ≡ h = cc in ap (map Signed) (sym q) ∙ ap (λ (ms : List Literal). Signed a ∷ ms) (ih k refl)
options-of (Defeated t a ∷ ls) h e = let z : ◌≡◌ {A = ℕ} 0 1 = cc in absurd (omega arith)
options-of (Derived t a ∷ ls) h e = let z : ◌≡◌ {A = ℕ} 0 1 = cc in absurd (omega arith)
options-of (RuleDefeated n ∷ ls) h e = let z : ◌≡◌ {A = ℕ} 0 1 = cc in absurd (omega arith)

-- literals split by counts
module _ (h b c : ℕ) (ls : List Literal) (count : length ls ≡ h + b + c) where
  heads : List Literal
  heads = take h ls

  positives : List Literal
  positives = take b (drop h ls)

  nafs : List Literal
  nafs = drop (h + b) ls

  split-whole : heads ++ (positives ++ nafs) ≡ ls
  unfolding heads positives nafs
  split-whole =
      ap (λ (ms : List Literal). take h ls ++ (take b (drop h ls) ++ ms)) (sym (drop-drop b h ls))
      ∙ ap (λ (ms : List Literal). take h ls ++ ms) (take-append-drop b (drop h ls)) ∙ take-append-drop h ls

  split-heads : length heads ≡ h
  unfolding heads
  split-heads = omega (arith, length-take h ls)

  split-positives : length positives ≡ b
  unfolding positives
  split-positives = omega (arith, length-take b (drop h ls), length-drop h ls)

  split-nafs : length nafs ≡ c
  unfolding nafs
  split-nafs = omega (arith, length-drop (h + b) ls)

  -- a record of the parts is one of the whole
  split-record : (l tag : ℕ) → rule_record l tag heads positives nafs ≡ l ∷ colon ∷ (two_bytes tag ++ (h ∷ b ∷ c ∷ encoded_literals ls))
  unfolding rule_record
  split-record l tag = simp (split-heads, split-positives, split-nafs, split-whole)

  split-literals : (F : Limits) → T (each_of (takes F) ls) → T (each_of (takes F) heads && (each_of (takes F) positives && each_of (takes F) nafs))
  split-literals F y =
      along (all_append (takes F) heads (positives ++ nafs) ∙ ap (λ (x : Bool). each_of (takes F) heads && x) (all_append (takes F) positives nafs))
      (subst (λ (ms : List Literal). T (each_of (takes F) ms)) (sym split-whole) y)

-- an accepted defeasible rule
record DefeasibleIs (tag : ℕ) (hs bs cs : List Literal) (r : Rule) : Type 0 where
  options : List SignedAtom
  heads : map Signed options ≡ hs
  full : 1 ≤ length hs
  same : defeasible (record { 0 = tag }) options bs cs ≡ r

defeasible-accepted : (tag : ℕ) (hs bs cs : List Literal) (r : Rule) → defeasible_rule tag hs bs cs ≡ Ok r → DefeasibleIs tag hs bs cs r
unfolding defeasible_rule
defeasible-accepted tag [] bs cs r e = absurd (refused-accepted e)
defeasible-accepted tag (l ∷ hs) bs cs r e = go (options_of (l ∷ hs)) refl e
  where
    go : (o : Option (List SignedAtom)) → options_of (l ∷ hs) ≡ o
        → (elim o as (λ x. Answer Rule) [ some os ↦ Ok (defeasible (record { 0 = tag }) os bs cs) | none ↦ Err (refusal HeadWrong 0) ]) ≡ Ok r
        → DefeasibleIs tag (l ∷ hs) bs cs r
    go none q f = absurd (refused-accepted f)
    go (some os) q f = record { options = os; heads = options-of (l ∷ hs) os q; full = omega arith; same = accepted-eq f }

-- a rule with its record's bytes, within the form's limits
record RuleIs (F : Limits) (bs : List ℕ) (r : Rule) : Type 0 where
  bytes : encoded_rule r ≡ bs
  keeps : T (keeps_rule F r)

-- the rule of a record whose header and literals are right
module _ (F : Limits) (tag h b c : ℕ) (ls : List Literal) (count : length ls ≡ h + b + c) (counts : T (keeps_counts F h b c))
    (taken : T (each_of (takes F) ls)) where
  hs : List Literal
  hs = heads h b c ls count

  bs : List Literal
  bs = positives h b c ls count

  cs : List Literal
  cs = nafs h b c ls count

  counted : (k : ℕ) → k ≡ h → T (keeps_counts F k (length bs) (length cs))
  unfolding bs cs
  counted k e = simp (e, split-positives h b c ls count, split-nafs h b c ls count) counts

  strict-is : tag ≡ 0 → RuleIs F (strict_letter ∷ colon ∷ (two_bytes tag ++ (h ∷ b ∷ c ∷ encoded_literals ls))) (strict hs bs cs)
  unfolding encoded_rule keeps_rule keeps_tag keeps_literals head positive naf hs bs cs
  strict-is e =
      record {
        bytes = ap (λ (n : ℕ). rule_record strict_letter n hs bs cs) (sym e) ∙ split-record h b c ls count strict_letter tag;
        keeps =
            both (keeps_counts F (length hs) (length bs) (length cs)) (each_of (takes F) hs && (each_of (takes F) bs && each_of (takes F) cs))
            (counted (length hs) (split-heads h b c ls count)) (split-literals h b c ls count F taken);
      }

  defeasible-is : (os : List SignedAtom) → map Signed os ≡ hs → 1 ≤ h → T F.defeasible → T (in_range F.tags tag)
      → RuleIs F (defeasible_letter ∷ colon ∷ (two_bytes tag ++ (h ∷ b ∷ c ∷ encoded_literals ls))) (defeasible (record { 0 = tag }) os bs cs)
  unfolding encoded_rule keeps_rule keeps_tag keeps_literals head positive naf hs bs cs
  defeasible-is os e full form range =
      record {
        bytes = ap (λ (ms : List Literal). rule_record defeasible_letter tag ms bs cs) e ∙ split-record h b c ls count defeasible_letter tag;
        keeps =
            both (F.defeasible && (in_range F.tags tag && leb 1 (length os)))
            (keeps_counts F (length (map Signed os)) (length bs) (length cs)
            && (each_of (takes F) (map Signed os) && (each_of (takes F) bs && each_of (takes F) cs)))
            (both F.defeasible (in_range F.tags tag && leb 1 (length os)) form
            (both (in_range F.tags tag) (leb 1 (length os)) range (le→leb 1 (length os) (omega (arith, options, split-heads h b c ls count)))))
            (both (keeps_counts F (length (map Signed os)) (length bs) (length cs))
            (each_of (takes F) (map Signed os) && (each_of (takes F) bs && each_of (takes F) cs))
            (counted (length (map Signed os)) (ap length e ∙ split-heads h b c ls count))
            (subst (λ (ms : List Literal). T (each_of (takes F) ms && (each_of (takes F) bs && each_of (takes F) cs))) (sym e)
            (split-literals h b c ls count F taken)));
      }
    where
      options : length os ≡ length hs
      options = sym (length-map os Signed) ∙ ap length e

  -- the rule that the reader makes is such a rule
  rule-of : (d : Bool) → T (tag_right F d tag) → (T d → T F.defeasible) → (r : Rule) → rule_of d tag h b ls ≡ Ok r
      → RuleIs F (letter d ∷ colon ∷ (two_bytes tag ++ (h ∷ b ∷ c ∷ encoded_literals ls))) r
  unfolding rule_of tag_right letter hs bs cs heads positives nafs
  rule-of false right form r e =
      subst (RuleIs F (strict_letter ∷ colon ∷ (two_bytes tag ++ (h ∷ b ∷ c ∷ encoded_literals ls)))) (accepted-eq e) (strict-is (eqb→eq tag 0 right))
  rule-of true right form r e =
      let w = defeasible-accepted tag hs bs cs r e in
      let full : 1 ≤ h = omega (arith, w.full, split-heads h b c ls count) in
      subst (RuleIs F (defeasible_letter ∷ colon ∷ (two_bytes tag ++ (h ∷ b ∷ c ∷ encoded_literals ls)))) w.same
      (defeasible-is w.options w.heads full (form tt) right)

-- the header bytes of a marked part
marked-header : (d : Bool) (t : List ℕ) → Bytes t → 7 ≤ length t → T (marked (letter d) t)
    → take 7 t ≡ letter d ∷ colon ∷ (two_bytes (number_at t 2) ++ (head_count t ∷ positive_count t ∷ naf_count t ∷ []))
unfolding marked
marked-header d t bytes h m =
    first-seven t h
    ∙ ap₂ (λ (x y : ℕ). x ∷ y ∷ get_or t 2 0 ∷ get_or t 3 0 ∷ head_count t ∷ positive_count t ∷ naf_count t ∷ [])
    (eqb→eq (letter_of t) (letter d) (first (eqb (letter_of t) (letter d)) (eqb (get_or t 1 0) colon) m))
    (eqb→eq (get_or t 1 0) colon (second (eqb (letter_of t) (letter d)) (eqb (get_or t 1 0) colon) m))
    ∙ ap (λ (xs : List ℕ). letter d ∷ colon ∷ (xs ++ (head_count t ∷ positive_count t ∷ naf_count t ∷ [])))
    (sym (two_bytes-number (get_or t 2 0) (get_or t 3 0) (bytes 3)))

-- what is held is within the form's limits
pub record Fitting (F : Limits) (h : Held) : Type 0 where
  pub rules : h.rules ≤ F.rules
  pub overrides : h.overrides ≤ F.sheets
  pub oppositions : h.oppositions ≤ F.sheets

-- an item's record, where h is held
pub record ItemRead (F : Limits) (h : Held) (t : List ℕ) (i : Item) (size : ℕ) : Type 0 where
  pub bytes : take size t ≡ encoded_item i
  pub keeps : T (keeps_item F i)
  pub room : Fitting F (holding h i)

-- an entry that is an item
pub record EntryItem (F : Limits) (h : Held) (t : List ℕ) (e : Entry) : Type 0 where
  pub item-read : Item
  pub size : ℕ
  pub same : item item-read size ≡ e
  pub read : ItemRead F h t item-read size

passes : (b : Bool) → not b ≡ false → T b
passes b e = along (sym (not-false b e)) tt

module _ (F : Limits) (h : Held) (fitting : Fitting F h) (t : List ℕ) (bytes : Bytes t) (e : Entry) where
  -- the literals of a record whose header is right
  body-sound : (d : Bool) → MarkIs F t d → 7 ≤ length t → h.rules < F.rules → T (tag_right F d (number_at t 2))
      → T (keeps_counts F (head_count t) (positive_count t) (naf_count t))
      → body_at F d t (head_count t) (positive_count t) (naf_count t) ≡ Ok e → EntryItem F h t e
  unfolding body_at encoded_item keeps_item holding
  body-sound d m seven room right counts q =
      let a = head_count t in
      let b = positive_count t in
      let c = naf_count t in
      let q1 = refuse-if-accepted _ _ _ e q in
      let q2 = and-then-accepted (literals_at F t 7 (a + b + c)) _ e q1.1 in
      let q3 = and-then-accepted (rule_of d (number_at t 2) a b q2.0) _ e q2.2 in
      let fits = ltb-false (length t) (7 + 5 * (a + b + c)) q1.0 in
      let run = literals-sound F t bytes (a + b + c) 7 q2.0 fits q2.1 in
      let is = rule-of F (number_at t 2) a b c q2.0 run.count counts run.taken d right m.form q3.0 q3.1 in
      record {
        item-read = rule q3.0;
        size = 7 + 5 * (a + b + c);
        same = accepted-eq q3.2;
        read =
            record {
              bytes =
                  take-add 7 (5 * (a + b + c)) t
                  ∙ ap₂ (λ (x y : List ℕ). x ++ y) (marked-header d t bytes seven m.letters) run.bytes ∙ sym is.bytes;
              keeps = is.keeps;
              room = record { rules = omega arith; overrides = fitting.overrides; oppositions = fitting.oppositions };
            };
      }

  rule-sound : (d : Bool) → MarkIs F t d → rule_at F d h.rules t ≡ Ok e → EntryItem F h t e
  unfolding rule_at
  rule-sound d m q =
      let q1 = refuse-if-accepted _ _ _ e q in
      let q2 = refuse-if-accepted _ _ _ e q1.1 in
      let q3 = refuse-if-accepted _ _ _ e q2.1 in
      let q4 = refuse-if-accepted _ _ _ e q3.1 in
      body-sound d m (ltb-false (length t) 7 q1.0) (leb-false F.rules h.rules q2.0) (passes (tag_right F d (number_at t 2)) q3.0)
      (passes (keeps_counts F (head_count t) (positive_count t) (naf_count t)) q4.0) q4.1

  -- two tags behind a mark
  override-bytes : 6 ≤ length t → T (marked override_letter t)
      → take 6 t ≡ override_letter ∷ colon ∷ (two_bytes (number_at t 2) ++ two_bytes (number_at t 4))
  unfolding marked
  override-bytes six m =
      first-six t six
      ∙ ap₂ (λ (x y : ℕ). x ∷ y ∷ get_or t 2 0 ∷ get_or t 3 0 ∷ get_or t 4 0 ∷ get_or t 5 0 ∷ [])
      (eqb→eq (letter_of t) override_letter (first (eqb (letter_of t) override_letter) (eqb (get_or t 1 0) colon) m))
      (eqb→eq (get_or t 1 0) colon (second (eqb (letter_of t) override_letter) (eqb (get_or t 1 0) colon) m))
      ∙ ap₂ (λ (xs ys : List ℕ). override_letter ∷ colon ∷ (xs ++ ys))
      (sym (two_bytes-number (get_or t 2 0) (get_or t 3 0) (bytes 3))) (sym (two_bytes-number (get_or t 4 0) (get_or t 5 0) (bytes 5)))

  override-sound : T (marked override_letter t) → override_at F h.overrides t ≡ Ok e → EntryItem F h t e
  unfolding override_at encoded_item encoded_override keeps_item keeps_override holding
  override-sound m q =
      let q1 = refuse-if-accepted _ _ _ e q in
      let q2 = refuse-if-accepted _ _ _ e q1.1 in
      let q3 = refuse-if-accepted _ _ _ e q2.1 in
      let q4 = refuse-if-accepted _ _ _ e q3.1 in
      let tags = in_range F.tags (number_at t 2) && in_range F.tags (number_at t 4) in
      record {
        item-read = override (record { upper = record { 0 = number_at t 2 }; lower = record { 0 = number_at t 4 } });
        size = 6;
        same = accepted-eq q4.1;
        read =
            record {
              bytes = override-bytes (ltb-false (length t) 6 q2.0) m;
              keeps =
                  both tags (not (eqb (number_at t 2) (number_at t 4))) (passes tags q3.0) (along (sym (ap not q4.0)) tt);
              room =
                  record {
                    rules = fitting.rules;
                    overrides = omega (arith, leb-false F.sheets h.overrides q1.0);
                    oppositions = fitting.oppositions;
                  };
            };
      }

  -- an option's five bytes
  signed-sound : (at : ℕ) (a : SignedAtom) → at + 5 ≤ length t → signed_at F t at ≡ Ok a
      → (take 5 (drop at t) ≡ encoded (Signed a)) × T (takes F (Signed a))
  unfolding signed_at signed_of
  signed-sound at a fits q = go (decoded F (drop at t)) refl q
    where
      go : (d : Decoded) → decoded F (drop at t) ≡ d → signed_of d at ≡ Ok a → (take 5 (drop at t) ≡ encoded (Signed a)) × T (takes F (Signed a))
      go (Valid (Signed b)) w f =
          encoded-decoded F (drop at t) (Signed a) (bytes_drop at t bytes) (omega (arith, length-drop at t))
          (w ∙ ap (λ (c : SignedAtom). Valid (Signed c)) (accepted-eq f))
      go (Valid (Defeated u b)) w f = absurd (refused-accepted f)
      go (Valid (Derived u b)) w f = absurd (refused-accepted f)
      go (Valid (RuleDefeated n)) w f = absurd (refused-accepted f)
      go Wrong w f = absurd (refused-accepted f)

  opposition-bytes : 12 ≤ length t → T (marked opposition_letter t) → (a b : SignedAtom) → take 5 (drop 2 t) ≡ encoded (Signed a)
      → take 5 (drop 7 t) ≡ encoded (Signed b) → take 12 t ≡ opposition_letter ∷ colon ∷ (encoded (Signed a) ++ encoded (Signed b))
  unfolding marked
  opposition-bytes twelve m a b one other =
      take-add 2 10 t
      ∙ ap₂ (λ (x y : List ℕ). x ++ y)
      (first_two t (omega arith)
      ∙ ap₂ (λ (x y : ℕ). x ∷ y ∷ [])
      (eqb→eq (letter_of t) opposition_letter (first (eqb (letter_of t) opposition_letter) (eqb (get_or t 1 0) colon) m))
      (eqb→eq (get_or t 1 0) colon (second (eqb (letter_of t) opposition_letter) (eqb (get_or t 1 0) colon) m)))
      (take-add 5 5 (drop 2 t) ∙ ap₂ (λ (x y : List ℕ). x ++ y) one (ap (take 5) (drop-drop 5 2 t) ∙ other))

  opposition-sound : T (marked opposition_letter t) → opposition_at F h.oppositions t ≡ Ok e → EntryItem F h t e
  unfolding opposition_at opposition_of encoded_item encoded_opposition keeps_item keeps_opposition holding
  opposition-sound m q =
      let q1 = refuse-if-accepted _ _ _ e q in
      let q2 = refuse-if-accepted _ _ _ e q1.1 in
      let q3 = and-then-accepted (signed_at F t 2) _ e q2.1 in
      let q4 = and-then-accepted (signed_at F t 7) _ e q3.2 in
      let q5 = refuse-if-accepted _ _ _ e q4.2 in
      let twelve = ltb-false (length t) 12 q2.0 in
      let a = q3.0 in
      let b = q4.0 in
      let one = signed-sound 2 a (omega (arith, twelve)) q3.1 in
      let other = signed-sound 7 b (omega (arith, twelve)) q4.1 in
      record {
        item-read = opposition (record { one = a; other = b });
        size = 12;
        same = accepted-eq q5.1;
        read =
            record {
              bytes = opposition-bytes twelve m a b one.0 other.0;
              keeps =
                  both (takes F (Signed a) && takes F (Signed b)) (not (same_signed a b))
                  (both (takes F (Signed a)) (takes F (Signed b)) one.1 other.1) (along (sym (ap not q5.0)) tt);
              room =
                  record {
                    rules = fitting.rules;
                    overrides = fitting.overrides;
                    oppositions = omega (arith, leb-false F.sheets h.oppositions q1.0);
                  };
            };
      }

-- an accepted end record
end-sound : (n : ℕ) (t : List ℕ) → Bytes t → T (marked end_letter t) → (e : Entry) → end_at n t ≡ Ok e → (end ≡ e) × (t ≡ encoded_end n)
unfolding end_at encoded_end marked
end-sound n t bytes m e q =
    let q1 = refuse-if-accepted _ _ _ e q in
    let q2 = refuse-if-accepted _ _ _ e q1.1 in
    let w = passes (eqb (number_at t 2) n && eqb (length t) 4) q2.0 in
    let number_is = eqb→eq (number_at t 2) n (first (eqb (number_at t 2) n) (eqb (length t) 4) w) in
    let four = eqb→eq (length t) 4 (second (eqb (number_at t 2) n) (eqb (length t) 4) w) in
    let e-is = eqb→eq (letter_of t) end_letter (first (eqb (letter_of t) end_letter) (eqb (get_or t 1 0) colon) m) in
    let colon-is = eqb→eq (get_or t 1 0) colon (second (eqb (letter_of t) end_letter) (eqb (get_or t 1 0) colon) m) in (
      accepted-eq q2.1,
      first-four t four
          ∙ ap₂ (λ (x y : ℕ). x ∷ y ∷ get_or t 2 0 ∷ get_or t 3 0 ∷ []) e-is colon-is
          ∙ ap (λ (xs : List ℕ). end_letter ∷ colon ∷ xs) (sym (two_bytes-number (get_or t 2 0) (get_or t 3 0) (bytes 3)) ∙ ap two_bytes number_is),
    )

-- an accepted file: its bytes, and that its items are within the form's limits
pub record FileRead (F : Limits) (h : Held) (t : List ℕ) (is : List Item) : Type 0 where
  pub bytes : t ≡ encoded_items is ++ encoded_end (held_on h is).rules
  pub keeps : T (each_of (keeps_item F) is)
  pub room : Fitting F (held_on h is)

file-cons : (F : Limits) (h : Held) (t : List ℕ) (i : Item) (size : ℕ) (is : List Item) → ItemRead F h t i size
    → FileRead F (holding h i) (drop size t) is → FileRead F h t (i ∷ is)
unfolding encoded_items held_on
file-cons F h t i size is here rest =
    record {
      bytes =
          sym (take-append-drop size t)
          ∙ ap₂ (λ (x y : List ℕ). x ++ y) here.bytes rest.bytes
          ∙ sym (append_assoc (encoded_item i) (encoded_items is) (encoded_end (held_on (holding h i) is).rules));
      keeps = both (keeps_item F i) (each_of (keeps_item F) is) here.keeps rest.keeps;
      room = rest.room;
    }

module _ (F : Limits) where
  pub record-sound : (h : Held) → Fitting F h → (t : List ℕ) → Bytes t → (e : Entry) → record_at F h t ≡ Ok e
      → EntryItem F h t e ⊎ ((end ≡ e) × (t ≡ encoded_end h.rules))
  unfolding record_at marked_record
  record-sound h fitting t bytes e q = go (mark_at F t) refl (refuse-if-accepted _ _ _ e q).1
    where
      go : (m : Mark) → mark_at F t ≡ m → marked_record F m h t ≡ Ok e → EntryItem F h t e ⊎ ((end ≡ e) × (t ≡ encoded_end h.rules))
      go (RuleMark d) w f = inl (rule-sound F h fitting t bytes e d (mark-rule F t d w) f)
      go OverrideMark w f = inl (override-sound F h fitting t bytes e (mark-override F t w) f)
      go OppositionMark w f = inl (opposition-sound F h fitting t bytes e (mark-opposition F t w) f)
      go EndMark w f = inr (end-sound h.rules t bytes (mark-end F t w) e f)
      go NoMark w f = absurd (refused-accepted f)

  pub items-sound : (f : ℕ) (t : List ℕ) (at : ℕ) (h : Held) (is : List Item) → Bytes t → Fitting F h → items_from F f t at h ≡ Ok is → FileRead F h t is
  unfolding items_from encoded_items held_on
  items-sound zero t at h is bytes room q = absurd (refused-accepted q)
  items-sound (suc f) t at h is bytes room q =
      go (record_at F h t) refl q (λ i size k w z. items-sound f (drop size t) (at + size) (holding h i) w (bytes_drop size t bytes) k z)
    where
      Rest : Type 0
      Rest =
          (i : Item) (size : ℕ) → Fitting F (holding h i) → (w : List Item) → items_from F f (drop size t) (at + size) (holding h i) ≡ Ok w
          → FileRead F (holding h i) (drop size t) w

      after_entry : Entry → Answer (List Item)
      after_entry e = elim e [ item i size ↦ and_then (items_from F f (drop size t) (at + size) (holding h i)) (λ w. Ok (i ∷ w)) | end ↦ Ok [] ]

      after : Answer Entry → Answer (List Item)
      after x = elim x [ Err y ↦ Err (shifted at y) | Ok e ↦ after_entry e ]

      entry : (e : Entry) → EntryItem F h t e ⊎ ((end ≡ e) × (t ≡ encoded_end h.rules)) → after_entry e ≡ Ok is → Rest → FileRead F h t is
      entry e (inl w) z ih =
          let i = w.item-read in
          let z1 : after_entry (item w.item-read w.size) ≡ Ok is = subst (λ (y : Entry). after_entry y ≡ Ok is) (sym w.same) z in
          let v = and-then-accepted (items_from F f (drop w.size t) (at + w.size) (holding h w.item-read)) (λ u. Ok (w.item-read ∷ u)) is z1 in
          let more = ih w.item-read w.size w.read.room v.0 v.1 in
          subst (FileRead F h t) (accepted-eq v.2) (file-cons F h t w.item-read w.size v.0 w.read more)
      entry e (inr w) z ih =
          let z1 : after_entry end ≡ Ok is = subst (λ (y : Entry). after_entry y ≡ Ok is) (sym w.0) z in
          subst (FileRead F h t) (accepted-eq z1) (record { bytes = w.1; keeps = tt; room = room })

      go : (x : Answer Entry) → record_at F h t ≡ x → after x ≡ Ok is → Rest → FileRead F h t is
      go (Err y) w z ih = absurd (refused-accepted z)
      go (Ok e) w z ih = entry e (record-sound h room t bytes e w) z ih
