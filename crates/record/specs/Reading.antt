-- Reading a file in a form (01, "Read"; 02, Ask 2): the tests in the documents' order, with their places.
-- In order: a run of literals; a rule's record, test by test; sheet records; the end record; one record, and a rule's alone; a file's items; the
-- program that they mean; read's answers.
-- A record is read in its own part of the slice, told what is held, and its places are counted from the part's start. Reading
-- goes on with the part behind the record just read.
-- Assumes nothing.
use Rattle.std.specs.Prelude.{ℕ, zero, suc, ◌+◌, ◌*◌, Bool, true, false, not, ◌&&◌, List, [], ◌∷◌, ltb, leb, eqb, length, get_or, take, drop, Ok, Err}
use Rattle.std.proofs.Math.Option.{Option, none, some}
use Rattle.buffer.specs.Bytes.{number_at}
use Rattle.literal.specs.declared.Limits.{Limits}
use Rattle.literal.specs.declared.SignedAtom.{SignedAtom}
use Rattle.literal.specs.declared.Literal.{Literal}
use Rattle.literal.specs.declared.Literal.TheVariants.{Signed, Defeated, Derived, RuleDefeated}
use Rattle.literal.specs.Literal.{Decoded, Valid, Wrong, in_range, decoded}
use Rattle.semantics.specs.Set.{same_signed}
use Rattle.semantics.specs.Rule.{Rule, strict, defeasible, Program}
use Rattle.semantics.specs.Item.{Item, rule, override, opposition, rules, overrides, oppositions, expanded}
use Rattle.semantics.specs.Form.{keeps_counts}
use Rattle.record.specs.declared.Reason.TheVariants.{TooLong, MarkCut, MarkWrong, HeaderCut, TooManyRules, TagWrong, TooManyLiterals, LiteralsCut, LiteralWrong, HeadWrong, EndWrong, TooManySheets, SheetCut, SheetSame}
use Rattle.record.specs.declared.Held.{Held}
use Rattle.record.specs.Header.{strict_letter, defeasible_letter, end_letter, override_letter, opposition_letter, letter_of, head_count, positive_count, naf_count, colon}
use Rattle.record.specs.Refusal.{refusal, shifted}
use Rattle.record.specs.Result.{Answer, and_then, refuse_if}

-- what one record is: an item and the record's length, or the end
pub data Entry : Type 0 where
  item : Item → ℕ → Entry
  end : Entry

-- n literals from `at` on; 5 at the first wrong one's first byte
unfoldable pub literals_at : Limits → List ℕ → ℕ → ℕ → Answer (List Literal)
literals_at F t at zero = Ok []
literals_at F t at (suc n) =
    elim (decoded F (drop at t)) [
      | Valid l ↦ and_then (literals_at F t (at + 5) n) (λ ls. Ok (l ∷ ls))
      | Wrong ↦ Err (refusal LiteralWrong at)
    ]

-- head literals as options; none where one is a mark
unfoldable pub options_of : List Literal → Option (List SignedAtom)
options_of [] = some []
options_of (Signed a ∷ ls) = elim (options_of ls) [ some h ↦ some (a ∷ h) | none ↦ none ]
options_of (Defeated t a ∷ ls) = none
options_of (Derived t a ∷ ls) = none
options_of (RuleDefeated n ∷ ls) = none

-- 7: a defeasible head that is empty or holds a mark
unfoldable pub defeasible_rule : ℕ → List Literal → List Literal → List Literal → Answer Rule
defeasible_rule tag [] b c = Err (refusal HeadWrong 0)
defeasible_rule tag (l ∷ h) b c =
    elim (options_of (l ∷ h)) [
      | some os ↦ Ok (defeasible (record { 0 = tag }) os b c)
      | none ↦ Err (refusal HeadWrong 0)
    ]

-- the rule of a record whose literals are right: its head, positive and naf literals in that order
unfoldable pub rule_of : Bool → ℕ → ℕ → ℕ → List Literal → Answer Rule
rule_of true tag h b ls = defeasible_rule tag (take h ls) (take b (drop h ls)) (drop (h + b) ls)
rule_of false tag h b ls = Ok (strict (take h ls) (take b (drop h ls)) (drop (h + b) ls))

-- the tag of an S: record is 0, that of a D: record one of the form's
unfoldable pub tag_right : Limits → Bool → ℕ → Bool
tag_right F true tag = in_range F.tags tag
tag_right F false tag = eqb tag 0

-- the literals of a record with these counts, and its rule: 2 if they are cut, 5, 7
unfoldable pub body_at : Limits → Bool → List ℕ → ℕ → ℕ → ℕ → Answer Entry
body_at F d t h b c =
    refuse_if (ltb (length t) (7 + 5 * (h + b + c))) (refusal LiteralsCut 0)
    (and_then (literals_at F t 7 (h + b + c)) (λ ls.
    and_then (rule_of d (number_at t 2) h b ls) (λ r. Ok (item (rule r) (7 + 5 * (h + b + c))))))

-- a rule's record, defeasible or strict, where n rules are held: 2 if the header is cut; 4 if it is one rule too many;
-- 6 for the tag; 4 for a count over its limit; then the literals
unfoldable pub rule_at : Limits → Bool → ℕ → List ℕ → Answer Entry
rule_at F d n t =
    refuse_if (ltb (length t) 7) (refusal HeaderCut 0)
    (refuse_if (leb F.rules n) (refusal TooManyRules 0)
    (refuse_if (not (tag_right F d (number_at t 2))) (refusal TagWrong 0)
    (refuse_if (not (keeps_counts F (head_count t) (positive_count t) (naf_count t))) (refusal TooManyLiterals 0)
    (body_at F d t (head_count t) (positive_count t) (naf_count t)))))

-- an override, where n are held: 4 if it is one too many; 2 if it is cut; 6 for a tag; 14 if both tags are the same
unfoldable pub override_at : Limits → ℕ → List ℕ → Answer Entry
override_at F n t =
    refuse_if (leb F.sheets n) (refusal TooManySheets 0)
    (refuse_if (ltb (length t) 6) (refusal SheetCut 0)
    (refuse_if (not (in_range F.tags (number_at t 2) && in_range F.tags (number_at t 4))) (refusal TagWrong 0)
    (refuse_if (eqb (number_at t 2) (number_at t 4)) (refusal SheetSame 0)
    (Ok (item (override (record { upper = record { 0 = number_at t 2 }; lower = record { 0 = number_at t 4 } })) 6)))))

-- the atom or negated atom that five bytes spell, from `at` on; 5 there for any other
unfoldable pub signed_of : Decoded → ℕ → Answer SignedAtom
signed_of (Valid (Signed a)) at = Ok a
signed_of (Valid (Defeated t a)) at = Err (refusal LiteralWrong at)
signed_of (Valid (Derived t a)) at = Err (refusal LiteralWrong at)
signed_of (Valid (RuleDefeated n)) at = Err (refusal LiteralWrong at)
signed_of Wrong at = Err (refusal LiteralWrong at)

unfoldable pub signed_at : Limits → List ℕ → ℕ → Answer SignedAtom
signed_at F t at = signed_of (decoded F (drop at t)) at

-- 14 if both options are the same
unfoldable pub opposition_of : SignedAtom → SignedAtom → Answer Entry
opposition_of a b = refuse_if (same_signed a b) (refusal SheetSame 0) (Ok (item (opposition (record { one = a; other = b })) 12))

-- an opposition, where n are held: 4 if it is one too many; 2 if it is cut; 5 at the first wrong literal; 14
unfoldable pub opposition_at : Limits → ℕ → List ℕ → Answer Entry
opposition_at F n t =
    refuse_if (leb F.sheets n) (refusal TooManySheets 0)
    (refuse_if (ltb (length t) 12) (refusal SheetCut 0)
    (and_then (signed_at F t 2) (λ a.
    and_then (signed_at F t 7) (λ b. opposition_of a b))))

-- the end record, where n rules are held: 2 if it is cut; 8 for a wrong number or bytes behind it
unfoldable pub end_at : ℕ → List ℕ → Answer Entry
end_at n t =
    refuse_if (ltb (length t) 4) (refusal HeaderCut 0)
    (refuse_if (not (eqb (number_at t 2) n && eqb (length t) 4)) (refusal EndWrong 0) (Ok end))

-- the mark at a record's start: of a rule, which is defeasible or not; of a sheet record; of the end; none of the form's
pub data Mark : Type 0 where
  RuleMark : Bool → Mark
  OverrideMark : Mark
  OppositionMark : Mark
  EndMark : Mark
  NoMark : Mark

-- the part starts with this letter's mark
unfoldable pub marked : ℕ → List ℕ → Bool
marked letter t = eqb (letter_of t) letter && eqb (get_or t 1 0) colon

unfoldable pub pick_mark : Bool → Bool → Bool → Bool → Bool → Mark
pick_mark true d o x e = RuleMark false
pick_mark false true o x e = RuleMark true
pick_mark false false true x e = OverrideMark
pick_mark false false false true e = OppositionMark
pick_mark false false false false true = EndMark
pick_mark false false false false false = NoMark

-- the marks of a form: S: and E:, D: where it has defeasible rules, O: and X: where it has preference sheets
unfoldable pub mark_at : Limits → List ℕ → Mark
mark_at F t =
    pick_mark (marked strict_letter t) (marked defeasible_letter t && F.defeasible) (marked override_letter t && ltb 0 F.sheets)
    (marked opposition_letter t && ltb 0 F.sheets) (marked end_letter t)

unfoldable pub marked_record : Limits → Mark → Held → List ℕ → Answer Entry
marked_record F (RuleMark d) h t = rule_at F d h.rules t
marked_record F OverrideMark h t = override_at F h.overrides t
marked_record F OppositionMark h t = opposition_at F h.oppositions t
marked_record F EndMark h t = end_at h.rules t
marked_record F NoMark h t = Err (refusal MarkWrong 0)

-- one record, where h is held: 2 if fewer than two bytes are left; 3 for a mark that is not the form's
unfoldable pub record_at : Limits → Held → List ℕ → Answer Entry
record_at F h t = refuse_if (ltb (length t) 2) (refusal MarkCut 0) (marked_record F (mark_at F t) h t)

-- the mark is a rule's
unfoldable pub is_rule : Mark → Bool
is_rule (RuleMark d) = true
is_rule OverrideMark = false
is_rule OppositionMark = false
is_rule EndMark = false
is_rule NoMark = false

-- so many rules are held, and no sheet record
abbrev pub rules_held : ℕ → Held
rules_held n = record { rules = n; overrides = 0; oppositions = 0 }

-- an item's bytes; the end is no item
unfoldable pub entry_size : Entry → Answer ℕ
entry_size (item i size) = Ok size
entry_size end = Err (refusal MarkWrong 0)

-- a rule's record and no other, where n rules are held: its length. It is refused as reading refuses it, and 3 is every mark but a rule's
unfoldable pub rule_only : Limits → ℕ → List ℕ → Answer ℕ
rule_only F n t =
    refuse_if (ltb (length t) 2) (refusal MarkCut 0)
    (refuse_if (not (is_rule (mark_at F t))) (refusal MarkWrong 0) (and_then (record_at F (rules_held n) t) entry_size))

-- nothing is held; one item more is held
abbrev pub nothing : Held
nothing = record { rules = 0; overrides = 0; oppositions = 0 }

unfoldable pub holding : Held → Item → Held
holding h (rule r) = record { rules = h.rules + 1; overrides = h.overrides; oppositions = h.oppositions }
holding h (override o) = record { rules = h.rules; overrides = h.overrides + 1; oppositions = h.oppositions }
holding h (opposition x) = record { rules = h.rules; overrides = h.overrides; oppositions = h.oppositions + 1 }

-- record by record: f bounds how many, t is the part that is left, it starts at `at`, and h is held
unfoldable pub items_from : Limits → ℕ → List ℕ → ℕ → Held → Answer (List Item)
items_from F zero t at h = Err (refusal MarkCut at)
items_from F (suc f) t at h =
    elim (record_at F h t) [
      | Err x ↦ Err (shifted at x)
      | Ok e ↦
          elim e [
            | item i size ↦ and_then (items_from F f (drop size t) (at + size) (holding h i)) (λ is. Ok (i ∷ is))
            | end ↦ Ok []
          ]
    ]

-- the items that a slice holds, in a form: 1 if the slice is too long; then record by record
unfoldable pub items : Limits → List ℕ → Answer (List Item)
items F s = refuse_if (ltb F.length (length s)) (refusal TooLong 0) (items_from F (length s + 1) s 0 nothing)

-- the rules that are written there, and the program that is meant
unfoldable pub written : Limits → List ℕ → Answer Program
written F s = and_then (items F s) (λ is. Ok (rules is))

unfoldable pub parsed : Limits → List ℕ → Answer Program
parsed F s = and_then (items F s) (λ is. Ok (expanded is))

-- what a file's items come to: how many of each kind
unfoldable pub held_of : List Item → Held
held_of is = record { rules = length (rules is); overrides = length (overrides is); oppositions = length (oppositions is) }

unfoldable pub holding_of : Answer (List Item) → Answer Held
holding_of (Ok is) = Ok (held_of is)
holding_of (Err x) = Err x

-- the answer of a reading: how many rules, or literals, were read
unfoldable pub reading_of : {A : Type 0} → Answer (List A) → Answer ℕ
reading_of (Ok xs) = Ok (length xs)
reading_of (Err x) = Err x

-- reading counts written rules
unfoldable pub reading : Limits → List ℕ → Answer ℕ
reading F s = reading_of (written F s)
