-- The layout of records (01, "Records"; 02, Ask 2), and programs and files of items as bytes.
-- In order: literals; a header; a rule's record; the end record; a program; a program within a form's limits; sheet records; a
-- file of items; one within a form's limits.
-- Not here: A: records (`set`), R: records (`Refusal`).
-- Assumes nothing.
use Rattle.std.specs.Prelude.{ℕ, Bool, ◌&&◌, List, [], ◌∷◌, ◌++◌, map, leb, length}
use Rattle.buffer.specs.Bytes.{two_bytes}
use Rattle.literal.specs.declared.Limits.{Limits}
use Rattle.literal.specs.declared.Literal.{Literal}
use Rattle.literal.specs.declared.Literal.TheVariants.{Signed}
use Rattle.literal.specs.Literal.{encoded}
use Rattle.semantics.specs.Rule.{Rule, strict, defeasible, Program}
use Rattle.semantics.specs.Expansion.{Override, Opposition}
use Rattle.semantics.specs.Item.{Item, rule, override, opposition, rules}
use Rattle.semantics.specs.Form.{keeps_rules, keeps_items}
use Rattle.record.specs.Header.{strict_letter, defeasible_letter, end_letter, override_letter, opposition_letter, colon}

-- literals one behind the other
unfoldable pub encoded_literals : List Literal → List ℕ
encoded_literals [] = []
encoded_literals (l ∷ ls) = encoded l ++ encoded_literals ls

-- a rule's record: letter, tag (2 bytes), head count, positive count, naf count (1 byte each), the literals in that order
unfoldable pub rule_record : ℕ → ℕ → List Literal → List Literal → List Literal → List ℕ
rule_record letter tag h b c =
    letter ∷ colon ∷ (two_bytes tag ++ (length h ∷ length b ∷ length c ∷ encoded_literals (h ++ (b ++ c))))

-- S: a strict rule, with tag 0; D: a defeasible rule
unfoldable pub encoded_rule : Rule → List ℕ
encoded_rule (strict h b c) = rule_record strict_letter 0 h b c
encoded_rule (defeasible t h b c) = rule_record defeasible_letter t.0 (map Signed h) b c

unfoldable pub encoded_rules : Program → List ℕ
encoded_rules [] = []
encoded_rules (r ∷ p) = encoded_rule r ++ encoded_rules p

-- E: the end record: the number of rules (2 bytes)
unfoldable pub encoded_end : ℕ → List ℕ
encoded_end n = end_letter ∷ colon ∷ two_bytes n

-- a program: its rules' records in order, and the end record
unfoldable pub encoded_program : Program → List ℕ
encoded_program p = encoded_rules p ++ encoded_end (length p)

-- a program within the form's limits: each count, tag and literal, the number of rules, and the length
unfoldable pub keeps : Limits → Program → Bool
keeps F p = keeps_rules F p && leb (length (encoded_program p)) F.length

-- O: an override: two tags, the upper first; X: an opposition: two literals
unfoldable pub encoded_override : Override → List ℕ
encoded_override o = override_letter ∷ colon ∷ (two_bytes o.upper.0 ++ two_bytes o.lower.0)

unfoldable pub encoded_opposition : Opposition → List ℕ
encoded_opposition x = opposition_letter ∷ colon ∷ (encoded (Signed x.one) ++ encoded (Signed x.other))

-- an item's record
unfoldable pub encoded_item : Item → List ℕ
encoded_item (rule r) = encoded_rule r
encoded_item (override o) = encoded_override o
encoded_item (opposition x) = encoded_opposition x

unfoldable pub encoded_items : List Item → List ℕ
encoded_items [] = []
encoded_items (i ∷ is) = encoded_item i ++ encoded_items is

-- a file: its items' records in order, and the end record, which counts the rules among them
unfoldable pub encoded_file : List Item → List ℕ
encoded_file is = encoded_items is ++ encoded_end (length (rules is))

-- a file within the form's limits: its items, and the length
unfoldable pub keeps_file : Limits → List Item → Bool
keeps_file F is = keeps_items F is && leb (length (encoded_file is)) F.length
