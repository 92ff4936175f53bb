-- What reading accepts, the other way: the encoding of items within the form's limits is read as those items.
-- In order: a run of literals; a rule's record; sheet records; one record; the file.
-- Assumes nothing.
use Prim.Native.Nat.{ℕ, zero, suc, ◌+◌, ◌*◌, ◌/◌, ◌%◌, ◌≤◌, ◌<◌}
use Rattle.std.specs.Prelude.{Ok, Err}
use native.Mathlib.Omega.{arith}
use mathlib.Core.Path.{◌≡◌, refl, sym, ◌∙◌, ap, ap₂, subst}
use mathlib.Core.Bool.{Bool, true, false, not, ◌&&◌}
use mathlib.Core.List.{List, [], ◌∷◌, ◌++◌, map, append_assoc}
use mathlib.Core.Option.{Option, none, some}
use lib.Dec.{T, eqb, eqb_refl}
use lib.ListN.{length, take, drop, length-append, length-map}
use lib.Seq.{drop-drop, take-append_seam, drop-append_seam, drop_at}
use borrow.Author.Tests.{le-ltb, lt-ltb, lt-leb, not-true}
use Rattle.buffer.specs.Bytes.{number_at}
use Rattle.buffer.proofs.Laws.Bytes.{number-two_bytes}
use Rattle.literal.specs.declared.Limits.{Limits}
use Rattle.literal.specs.declared.SignedAtom.{SignedAtom}
use Rattle.literal.specs.declared.Literal.{Literal}
use Rattle.literal.specs.declared.Literal.TheVariants.{Signed}
use Rattle.literal.specs.Literal.{Decoded}
use Rattle.literal.specs.Literal.{Valid, Wrong}
use Rattle.literal.specs.Literal.{encoded, decoded, takes, in_range}
use Rattle.literal.proofs.Laws.Literal.{decoded-encoded, length-encoded}
use Rattle.semantics.specs.Set.{each_of, same_tag, same_signed}
use Rattle.semantics.specs.Rule.{Rule, strict, defeasible, head, positive, naf}
use Rattle.semantics.specs.Expansion.{Override, Opposition}
use Rattle.semantics.specs.Item.{Item, rule, override, opposition}
use Rattle.semantics.specs.Translation.{record_length}
use Rattle.semantics.specs.Form.{keeps_counts, keeps_rule, keeps_override, keeps_opposition, keeps_item}
use Rattle.semantics.proofs.Laws.Tests.{both, first, second, is_true, along, all_append}
use Rattle.semantics.proofs.Laws.Form.{kept}
use Rattle.record.specs.declared.Reason.TheVariants.{LiteralWrong, HeadWrong}
use Rattle.record.specs.declared.Held.{Held}
use Rattle.record.specs.Header.{strict_letter, defeasible_letter}
use Rattle.record.specs.Refusal.{refusal}
use Rattle.record.specs.Result.{Answer, and_then, refuse_if}
use Rattle.record.specs.Layout.{encoded_literals, rule_record, encoded_rule, encoded_end, encoded_override, encoded_opposition, encoded_item, encoded_items}
use Rattle.record.specs.Reading.{Mark, RuleMark, OverrideMark, OppositionMark, Entry, item, end, literals_at, options_of, defeasible_rule, rule_of, tag_right, body_at, rule_at, override_at, signed_of, signed_at, opposition_of, opposition_at, end_at, marked, pick_mark, mark_at, marked_record, record_at, holding, items_from}
use Rattle.record.specs.Code.{held_on}
use Rattle.record.proofs.Laws.Result.{accepted-and-then, refuse-if-false}
use Rattle.record.proofs.Laws.Steps.{items-item, items-end}
use Rattle.record.proofs.Laws.Layout.{length-encoded-literals, item_length, length-encoded-item}
use Rattle.record.proofs.Laws.Program.{held_on_lem}
use Rattle.record.proofs.Laws.Sound.{Fitting}

-- a test that passes, under a not
failed : (b : Bool) → T b → not b ≡ false
failed b t = ap not (is_true b t)

module _ (F : Limits) where
  literals-complete : (t : List ℕ) (at : ℕ) (ls : List Literal) (rest : List ℕ) → T (each_of (takes F) ls) → drop at t ≡ encoded_literals ls ++ rest
      → literals_at F t at (length ls) ≡ Ok ls
  unfolding literals_at encoded_literals encoded
  literals-complete t at [] rest k e = refl
  literals-complete t at (l ∷ ls) rest k e =
      go (decoded F (drop at t)) valid (literals-complete t (at + 5) ls rest (second (takes F l) (each_of (takes F) ls) k) behind)
    where
      here : drop at t ≡ encoded l ++ (encoded_literals ls ++ rest)
      here = e ∙ append_assoc (encoded l) (encoded_literals ls) rest

      valid : decoded F (drop at t) ≡ Valid l
      valid = ap (decoded F) here ∙ decoded-encoded F l (encoded_literals ls ++ rest) (first (takes F l) (each_of (takes F) ls) k)

      behind : drop (at + 5) t ≡ encoded_literals ls ++ rest
      behind = sym (drop-drop 5 at t) ∙ ap (drop 5) here

      step : Decoded → Answer (List Literal)
      step d = elim d [ Valid m ↦ and_then (literals_at F t (at + 5) (length ls)) (λ ms. Ok (m ∷ ms)) | Wrong ↦ Err (refusal LiteralWrong at) ]

      go : (d : Decoded) → d ≡ Valid l → literals_at F t (at + 5) (length ls) ≡ Ok ls → step d ≡ Ok (l ∷ ls)
      go d q ih = ap step q ∙ ap (λ (r : Answer (List Literal)). and_then r (λ ms. Ok (l ∷ ms))) ih ∙ accepted-and-then ls (λ ms. Ok (l ∷ ms))

  -- a record's literals and its rule, where the header is right
  module _ (d : Bool) (n l tag : ℕ) (h b c : List Literal) (rest : List ℕ) where
    t : List ℕ
    t = rule_record l tag h b c ++ rest

    size : ℕ
    size = 7 + 5 * (length h + length b + length c)

    three : length (h ++ (b ++ c)) ≡ length h + length b + length c
    three = omega (arith, length-append h (b ++ c), length-append b c)

    long : size ≤ length t
    unfolding t size rule_record
    long = omega (arith, length-append (encoded_literals (h ++ (b ++ c))) rest, length-encoded-literals (h ++ (b ++ c)), three)

    tag_is : number_at t 2 ≡ tag
    unfolding t rule_record
    tag_is = omega arith

    literals-are : T (each_of (takes F) (h ++ (b ++ c))) → literals_at F t 7 (length h + length b + length c) ≡ Ok (h ++ (b ++ c))
    unfolding t rule_record
    literals-are k = ap (literals_at F t 7) (sym three) ∙ literals-complete t 7 (h ++ (b ++ c)) rest k refl

    rule-complete : T (each_of (takes F) (h ++ (b ++ c))) → T (keeps_counts F (length h) (length b) (length c)) → T (tag_right F d tag) → n < F.rules
        → (r : Rule) → rule_of d tag (length h) (length b) (h ++ (b ++ c)) ≡ Ok r → rule_at F d n t ≡ Ok (item (rule r) size)
    unfolding rule_at body_at t rule_record size
    rule-complete taken counts right room r is =
        refuse-if-false _ _ _ (le-ltb (length t) 7 (omega (arith, long)))
        ∙ refuse-if-false _ _ _ (lt-leb F.rules n room)
        ∙ refuse-if-false _ _ _ (failed (tag_right F d (number_at t 2)) (subst (λ (k : ℕ). T (tag_right F d k)) (sym tag_is) right))
        ∙ refuse-if-false _ _ _ (failed (keeps_counts F (length h) (length b) (length c)) counts)
        ∙ refuse-if-false _ _ _ (le-ltb (length t) size long)
        ∙ ap (λ (q : Answer (List Literal)). and_then q finish) (literals-are taken)
        ∙ accepted-and-then (h ++ (b ++ c)) finish
        ∙ ap (λ (k : ℕ). and_then (rule_of d k (length h) (length b) (h ++ (b ++ c))) sized) tag_is
        ∙ ap (λ (q : Answer Rule). and_then q sized) is
        ∙ accepted-and-then r sized
      where
        sized : Rule → Answer Entry
        sized q = Ok (item (rule q) size)

        finish : List Literal → Answer Entry
        finish ls = and_then (rule_of d (number_at t 2) (length h) (length b) ls) sized

-- the parts of literals joined
split-heads : (h b c : List Literal) → take (length h) (h ++ (b ++ c)) ≡ h
split-heads h b c = take-append_seam h (b ++ c)

split-positives : (h b c : List Literal) → take (length b) (drop (length h) (h ++ (b ++ c))) ≡ b
split-positives h b c = ap (take (length b)) (drop-append_seam h (b ++ c)) ∙ take-append_seam b c

split-nafs : (h b c : List Literal) → drop (length h + length b) (h ++ (b ++ c)) ≡ c
split-nafs h b c = sym (drop-drop (length b) (length h) (h ++ (b ++ c))) ∙ ap (drop (length b)) (drop-append_seam h (b ++ c)) ∙ drop-append_seam b c

options-of : (h : List SignedAtom) → options_of (map Signed h) ≡ some h
unfolding options_of
options-of [] = refl
options-of (a ∷ h) = ap (λ (o : Option (List SignedAtom)). elim o as (λ x. Option (List SignedAtom)) [ some k ↦ some (a ∷ k) | none ↦ none ]) (options-of h)

-- the reader makes the rule of its literals
strict_of : (tag : ℕ) (h b c : List Literal) → rule_of false tag (length h) (length b) (h ++ (b ++ c)) ≡ Ok (strict h b c)
unfolding rule_of
strict_of tag h b c = simp (split-heads, split-positives, split-nafs)

defeasible-split : (tag : ℕ) (h b c : List Literal) → rule_of true tag (length h) (length b) (h ++ (b ++ c)) ≡ defeasible_rule tag h b c
unfolding rule_of
defeasible-split tag h b c = simp (split-heads, split-positives, split-nafs)

defeasible-made : (tag : ℕ) (a : SignedAtom) (h : List SignedAtom) (b c : List Literal)
    → defeasible_rule tag (map Signed (a ∷ h)) b c ≡ Ok (defeasible (record { 0 = tag }) (a ∷ h) b c)
unfolding defeasible_rule
defeasible-made tag a h b c =
    let made : List SignedAtom → Answer Rule = λ os. Ok (defeasible (record { 0 = tag }) os b c) in
    ap (λ (o : Option (List SignedAtom)). elim o as (λ x. Answer Rule) [ some os ↦ made os | none ↦ Err (refusal HeadWrong 0) ]) (options-of (a ∷ h))

-- the marks at a record's start
pub strict-mark : (F : Limits) (tag : ℕ) (h b c : List Literal) (rest : List ℕ) → mark_at F (rule_record strict_letter tag h b c ++ rest) ≡ RuleMark false
unfolding mark_at marked pick_mark rule_record
strict-mark F tag h b c rest = refl

pub defeasible-mark : (F : Limits) (tag : ℕ) (h b c : List Literal) (rest : List ℕ) → T F.defeasible
    → mark_at F (rule_record defeasible_letter tag h b c ++ rest) ≡ RuleMark true
unfolding mark_at marked pick_mark rule_record
defeasible-mark F tag h b c rest k = ap (λ (x : Bool). pick_mark false x false false false) (is_true F.defeasible k)

module _ (F : Limits) where
  -- the literals of a rule within the limits, one behind the other
  joined : (r : Rule) → T (keeps_rule F r) → T (each_of (takes F) (head r ++ (positive r ++ naf r)))
  joined r k =
      let w = kept F r k in
      along (sym (all_append (takes F) (head r) (positive r ++ naf r)))
      (both (each_of (takes F) (head r)) (each_of (takes F) (positive r ++ naf r)) w.head-taken
      (along (sym (all_append (takes F) (positive r) (naf r))) (both (each_of (takes F) (positive r)) _ w.positive-taken w.naf-taken)))

  two : (t : List ℕ) → 2 ≤ length t → (h : Held) → record_at F h t ≡ marked_record F (mark_at F t) h t
  unfolding record_at
  two t k h = refuse-if-false _ _ _ (le-ltb (length t) 2 k)

  -- a record with this mark, header and literals
  marked-complete : (d : Bool) (k : Held) (l tag : ℕ) (h b c : List Literal) (rest : List ℕ) (r : Rule) → mark_at F (rule_record l tag h b c ++ rest) ≡ RuleMark d
      → T (each_of (takes F) (h ++ (b ++ c))) → T (keeps_counts F (length h) (length b) (length c)) → T (tag_right F d tag) → k.rules < F.rules
      → rule_of d tag (length h) (length b) (h ++ (b ++ c)) ≡ Ok r
      → record_at F k (rule_record l tag h b c ++ rest) ≡ Ok (item (rule r) (7 + 5 * (length h + (length b + length c))))
  unfolding marked_record t size
  marked-complete d k l tag h b c rest r mark taken counts right room is =
      let n = k.rules in
      two (rule_record l tag h b c ++ rest) (omega (arith, long F d n l tag h b c rest)) k
      ∙ ap (λ (m : Mark). marked_record F m k (rule_record l tag h b c ++ rest)) mark
      ∙ rule-complete F d n l tag h b c rest taken counts right room r is
      ∙ ap (λ (j : ℕ). Ok (item (rule r) (7 + 5 * j))) regroup
    where
      regroup : length h + length b + length c ≡ length h + (length b + length c)
      regroup = omega arith

  -- the record of a rule within the limits is read as that rule
  pub record-complete : (r : Rule) (n : Held) (rest : List ℕ) → T (keeps_rule F r) → n.rules < F.rules
      → record_at F n (encoded_rule r ++ rest) ≡ Ok (item (rule r) (record_length r))
  unfolding encoded_rule record_length head positive naf tag_right
  record-complete (strict h b c) n rest k room =
      marked-complete false n strict_letter 0 h b c rest (strict h b c) (strict-mark F 0 h b c rest) (joined (strict h b c) k)
      (kept F (strict h b c) k).counts tt room (strict_of 0 h b c)
  record-complete (defeasible t [] b c) n rest k room = absurd (omega (arith, (kept F (defeasible t [] b c) k).tag.some))
  record-complete (defeasible t (a ∷ h) b c) n rest k room =
      let w = kept F (defeasible t (a ∷ h) b c) k in
      marked-complete true n defeasible_letter t.0 (map Signed (a ∷ h)) b c rest (defeasible t (a ∷ h) b c)
      (defeasible-mark F t.0 (map Signed (a ∷ h)) b c rest w.tag.form) (joined (defeasible t (a ∷ h) b c) k) w.counts w.tag.range room
      (defeasible-split t.0 (map Signed (a ∷ h)) b c ∙ defeasible-made t.0 a h b c)
      ∙ ap (λ (m : ℕ). Ok (item (rule (defeasible t (a ∷ h) b c)) (7 + 5 * (m + (length b + length c))))) (length-map (a ∷ h) Signed)

  -- an override's record, in a form with sheets
  override-mark : (o : Override) (rest : List ℕ) → 0 < F.sheets → mark_at F (encoded_override o ++ rest) ≡ OverrideMark
  unfolding mark_at marked pick_mark encoded_override
  override-mark o rest room = ap (λ (x : Bool). pick_mark false false x false false) (lt-ltb 0 F.sheets room)

  override-tags : (o : Override) (rest : List ℕ) → (number_at (encoded_override o ++ rest) 2 ≡ o.upper.0) × (number_at (encoded_override o ++ rest) 4 ≡ o.lower.0)
  unfolding encoded_override
  override-tags o rest = (number-two_bytes o.upper.0, number-two_bytes o.lower.0)

  override-complete : (o : Override) (h : Held) (rest : List ℕ) → T (keeps_override F o) → h.overrides < F.sheets
      → record_at F h (encoded_override o ++ rest) ≡ Ok (item (override o) 6)
  unfolding marked_record override_at keeps_override encoded_item item_length
  override-complete o h rest k room =
      let t = encoded_override o ++ rest in
      let tags = override-tags o rest in
      let right = in_range F.tags o.upper.0 && in_range F.tags o.lower.0 in
      let differ = not (same_tag o.upper o.lower) in
      two t (omega (arith, override-long)) h
      ∙ ap (λ (m : Mark). marked_record F m h t) (override-mark o rest (omega arith))
      ∙ refuse-if-false _ _ _ (lt-leb F.sheets h.overrides room)
      ∙ refuse-if-false _ _ _ (le-ltb (length t) 6 override-long)
      ∙ refuse-if-false _ _ _ (ap₂ (λ (m n : ℕ). not (in_range F.tags m && in_range F.tags n)) tags.0 tags.1 ∙ failed right (first right differ k))
      ∙ refuse-if-false _ _ _ (ap₂ eqb tags.0 tags.1 ∙ not-true _ (is_true differ (second right differ k)))
      ∙ ap₂ (λ (m n : ℕ). Ok (item (override (record { upper = record { 0 = m }; lower = record { 0 = n } })) 6)) tags.0 tags.1
    where
      override-long : 6 ≤ length (encoded_override o ++ rest)
      override-long = omega (arith, length-append (encoded_override o) rest, length-encoded-item (override o))

  -- an opposition's
  opposition-mark : (x : Opposition) (rest : List ℕ) → 0 < F.sheets → mark_at F (encoded_opposition x ++ rest) ≡ OppositionMark
  unfolding mark_at marked pick_mark encoded_opposition
  opposition-mark x rest room = ap (λ (b : Bool). pick_mark false false false b false) (lt-ltb 0 F.sheets room)

  signed-complete : (t : List ℕ) (at : ℕ) (a : SignedAtom) (rest : List ℕ) → T (takes F (Signed a)) → drop at t ≡ encoded (Signed a) ++ rest
      → signed_at F t at ≡ Ok a
  unfolding signed_at signed_of
  signed-complete t at a rest k e =
      ap (λ (d : Decoded). signed_of d at) (ap (decoded F) e ∙ decoded-encoded F (Signed a) rest k)

  opposition-literals : (x : Opposition) (rest : List ℕ)
      → (drop 2 (encoded_opposition x ++ rest) ≡ encoded (Signed x.one) ++ (encoded (Signed x.other) ++ rest))
      × (drop 7 (encoded_opposition x ++ rest) ≡ encoded (Signed x.other) ++ rest)
  unfolding encoded_opposition
  opposition-literals x rest = (
    one,
    sym (drop-drop 5 2 (encoded_opposition x ++ rest)) ∙ ap (drop 5) one
        ∙ drop_at (encoded (Signed x.one)) (encoded (Signed x.other) ++ rest) 5 (length-encoded (Signed x.one)),
  )
    where
      one : drop 2 (encoded_opposition x ++ rest) ≡ encoded (Signed x.one) ++ (encoded (Signed x.other) ++ rest)
      one = append_assoc (encoded (Signed x.one)) (encoded (Signed x.other)) rest

  opposition-complete : (x : Opposition) (h : Held) (rest : List ℕ) → T (keeps_opposition F x) → h.oppositions < F.sheets
      → record_at F h (encoded_opposition x ++ rest) ≡ Ok (item (opposition x) 12)
  unfolding marked_record opposition_at opposition_of keeps_opposition encoded_item item_length
  opposition-complete x h rest k room =
      let t = encoded_opposition x ++ rest in
      let a = x.one in
      let b = x.other in
      let taken = takes F (Signed a) && takes F (Signed b) in
      let differ = not (same_signed a b) in
      let lits = opposition-literals x rest in
      two t (omega (arith, opposition-long)) h
      ∙ ap (λ (m : Mark). marked_record F m h t) (opposition-mark x rest (omega arith))
      ∙ refuse-if-false _ _ _ (lt-leb F.sheets h.oppositions room)
      ∙ refuse-if-false _ _ _ (le-ltb (length t) 12 opposition-long)
      ∙ ap (λ (r : Answer SignedAtom). and_then r (λ a. and_then (signed_at F t 7) (λ b. opposition_of a b)))
      (signed-complete t 2 a (encoded (Signed b) ++ rest) (first (takes F (Signed a)) (takes F (Signed b)) (first taken differ k)) lits.0)
      ∙ accepted-and-then a (λ a. and_then (signed_at F t 7) (λ b. opposition_of a b))
      ∙ ap (λ (r : Answer SignedAtom). and_then r (λ b. opposition_of a b))
      (signed-complete t 7 b rest (second (takes F (Signed a)) (takes F (Signed b)) (first taken differ k)) lits.1)
      ∙ accepted-and-then b (λ b. opposition_of a b)
      ∙ refuse-if-false _ _ _ (not-true _ (is_true differ (second taken differ k)))
    where
      opposition-long : 12 ≤ length (encoded_opposition x ++ rest)
      opposition-long = omega (arith, length-append (encoded_opposition x) rest, length-encoded-item (opposition x))

  -- the record of an item within the limits is read as that item
  pub item-complete : (i : Item) (h : Held) (rest : List ℕ) → T (keeps_item F i) → Fitting F (holding h i)
      → record_at F h (encoded_item i ++ rest) ≡ Ok (item i (item_length i))
  unfolding encoded_item item_length keeps_item holding
  item-complete (rule r) h rest k room = record-complete r h rest k (omega (arith, room.rules))
  item-complete (override o) h rest k room = override-complete o h rest k (omega (arith, room.overrides))
  item-complete (opposition x) h rest k room = opposition-complete x h rest k (omega (arith, room.oppositions))

  -- the end record of the rules held
  end-complete : (h : Held) → record_at F h (encoded_end h.rules) ≡ Ok end
  unfolding record_at refuse_if mark_at marked pick_mark marked_record encoded_end end_at
  end-complete h =
      let n = h.rules in
      refuse-if-false _ _ _
      (failed (eqb (n / 256 * 256 + n % 256) n && true) (both (eqb (n / 256 * 256 + n % 256) n) true (subst (λ (k : ℕ). T (eqb k n)) whole (eqb_refl n)) tt))
    where
      whole : h.rules ≡ h.rules / 256 * 256 + h.rules % 256
      whole = omega arith

  -- what is held is no more than what is held in the end
  fitting-before : (h : Held) (is : List Item) → Fitting F (held_on h is) → Fitting F h
  fitting-before h is room =
      let w = subst (Fitting F) (held_on_lem h is) room in
      record { rules = omega (arith, w.rules); overrides = omega (arith, w.overrides); oppositions = omega (arith, w.oppositions) }

  -- the records of items within the limits, and the end record
  pub items-complete : (f : ℕ) (is : List Item) (at : ℕ) (h : Held) → T (each_of (keeps_item F) is) → Fitting F (held_on h is) → length is < f
      → items_from F f (encoded_items is ++ encoded_end (held_on h is).rules) at h ≡ Ok is
  unfolding items_from encoded_items held_on
  items-complete zero is at h k room fuel = absurd (omega arith)
  items-complete (suc f) [] at h k room fuel = items-end F f (encoded_end h.rules) at h (end-complete h)
  items-complete (suc f) (i ∷ is) at h k room fuel =
      ap (λ (bs : List ℕ). items_from F (suc f) bs at h) (append_assoc (encoded_item i) (encoded_items is) (encoded_end (held_on (holding h i) is).rules))
      ∙ items-item F f (encoded_item i ++ rest) at h i (item_length i)
      (item-complete i h rest (first (keeps_item F i) _ k) (fitting-before (holding h i) is room))
      ∙ ap (λ (q : Answer (List Item)). and_then q (λ w. Ok (i ∷ w)))
      (behind ∙ items-complete f is (at + item_length i) (holding h i) (second (keeps_item F i) _ k) room (omega arith))
      ∙ accepted-and-then is (λ w. Ok (i ∷ w))
    where
      rest : List ℕ
      rest = encoded_items is ++ encoded_end (held_on (holding h i) is).rules

      behind : items_from F f (drop (item_length i) (encoded_item i ++ rest)) (at + item_length i) (holding h i)
          ≡ items_from F f rest (at + item_length i) (holding h i)
      behind =
          ap (λ (bs : List ℕ). items_from F f bs (at + item_length i) (holding h i))
          (drop_at (encoded_item i) rest (item_length i) (length-encoded-item i))
