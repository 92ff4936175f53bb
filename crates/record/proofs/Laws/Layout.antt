-- Laws of the layout: lengths, and the bytes of runs of literals, of programs and of files. Assumes nothing.
use Prim.Native.Nat.{ℕ, ◌+◌, ◌*◌, ◌≤◌}
use native.Mathlib.Omega.{arith}
use mathlib.Core.Path.{◌≡◌, refl, sym, ◌∙◌, ap}
use mathlib.Core.List.{List, [], ◌∷◌, ◌++◌, map, append_assoc}
use lib.ListN.{length, length-append, length-map}
use Rattle.literal.specs.declared.Literal.{Literal}
use Rattle.literal.specs.declared.Literal.TheVariants.{Signed}
use Rattle.literal.specs.Literal.{encoded}
use Rattle.literal.proofs.Laws.Literal.{length-encoded}
use Rattle.semantics.specs.Rule.{Rule, strict, defeasible, Program}
use Rattle.semantics.specs.Translation.{record_length}
use Rattle.semantics.proofs.Laws.Length.{records_length, program_length}
use Rattle.record.specs.Header.{strict_letter, defeasible_letter}
use Rattle.semantics.specs.Expansion.{Override, Opposition}
use Rattle.semantics.specs.Item.{Item, rule, override, opposition, rules}
use Rattle.record.specs.Layout.{encoded_literals, rule_record, encoded_rule, encoded_rules, encoded_end, encoded_program, encoded_override, encoded_opposition, encoded_item, encoded_items, encoded_file}

pub encoded-literals-append : (ls ms : List Literal) → encoded_literals (ls ++ ms) ≡ encoded_literals ls ++ encoded_literals ms
unfolding encoded_literals
encoded-literals-append [] ms = refl
encoded-literals-append (l ∷ ls) ms =
    ap (λ (bs : List ℕ). encoded l ++ bs) (encoded-literals-append ls ms) ∙ sym (append_assoc (encoded l) (encoded_literals ls) (encoded_literals ms))

-- five bytes for each literal
pub length-encoded-literals : (ls : List Literal) → length (encoded_literals ls) ≡ 5 * length ls
unfolding encoded_literals
length-encoded-literals [] = refl
length-encoded-literals (l ∷ ls) =
    length-append (encoded l) (encoded_literals ls) ∙ omega (arith, length-encoded l, length-encoded-literals ls)

length-rule-record : (letter tag : ℕ) (h b c : List Literal) → length (rule_record letter tag h b c) ≡ 7 + 5 * (length h + (length b + length c))
unfolding rule_record
length-rule-record letter tag h b c =
    omega (arith, length-encoded-literals (h ++ (b ++ c)), length-append h (b ++ c), length-append b c)

-- a record's bytes are as many as the sum says
pub length-encoded-rule : (r : Rule) → length (encoded_rule r) ≡ record_length r
unfolding encoded_rule record_length
length-encoded-rule (strict h b c) = length-rule-record strict_letter 0 h b c
length-encoded-rule (defeasible t h b c) = length-rule-record defeasible_letter t.0 (map Signed h) b c ∙ omega (arith, length-map h Signed)

pub length-encoded-rules : (p : Program) → length (encoded_rules p) ≡ records_length p
unfolding encoded_rules records_length
length-encoded-rules [] = refl
length-encoded-rules (r ∷ p) =
    length-append (encoded_rule r) (encoded_rules p) ∙ omega (arith, length-encoded-rule r, length-encoded-rules p)

-- the records of an append
pub encoded-rules-append : (p q : Program) → encoded_rules (p ++ q) ≡ encoded_rules p ++ encoded_rules q
unfolding encoded_rules
encoded-rules-append [] q = refl
encoded-rules-append (r ∷ p) q =
    ap (λ (bs : List ℕ). encoded_rule r ++ bs) (encoded-rules-append p q) ∙ sym (append_assoc (encoded_rule r) (encoded_rules p) (encoded_rules q))

pub length-encoded-program : (p : Program) → length (encoded_program p) ≡ program_length p
unfolding encoded_program program_length encoded_end
length-encoded-program p = length-append (encoded_rules p) (encoded_end (length p)) ∙ omega (arith, length-encoded-rules p)

-- an end record has four bytes
pub length-end : (n : ℕ) → length (encoded_end n) ≡ 4
unfolding encoded_end
length-end n = refl

pub length-program : (p : Program) → length (encoded_program p) ≡ 4 + length (encoded_rules p)
unfolding encoded_program encoded_end
length-program p = length-append (encoded_rules p) (encoded_end (length p)) ∙ omega arith

-- a record has a byte at least, so that a program has no more rules than bytes
record-large : (r : Rule) → 7 ≤ record_length r
unfolding record_length
record-large (strict h b c) = omega arith
record-large (defeasible t h b c) = omega arith

rules-below : (p : Program) → length p ≤ records_length p
unfolding records_length
rules-below [] = omega arith
rules-below (r ∷ p) = omega (arith, record-large r, rules-below p)

pub rules-below-length : (p : Program) → length p ≤ length (encoded_program p)
unfolding program_length
rules-below-length p = omega (arith, length-encoded-program p, rules-below p)

-- the bytes of an item's record
unfoldable pub item_length : Item → ℕ
item_length (rule r) = record_length r
item_length (override o) = 6
item_length (opposition x) = 12

length-override : (o : Override) → length (encoded_override o) ≡ 6
unfolding encoded_override
length-override o = refl

length-opposition : (x : Opposition) → length (encoded_opposition x) ≡ 12
unfolding encoded_opposition
length-opposition x =
    omega (arith, length-append (encoded (Signed x.one)) (encoded (Signed x.other)), length-encoded (Signed x.one), length-encoded (Signed x.other))

pub length-encoded-item : (i : Item) → length (encoded_item i) ≡ item_length i
unfolding encoded_item item_length
length-encoded-item (rule r) = length-encoded-rule r
length-encoded-item (override o) = length-override o
length-encoded-item (opposition x) = length-opposition x

-- an item has six bytes at least, so that a file has no more items than bytes
pub item-large : (i : Item) → 6 ≤ item_length i
unfolding item_length
item-large (rule r) = omega (arith, record-large r)
item-large (override o) = omega arith
item-large (opposition x) = omega arith

items-below : (is : List Item) → length is ≤ length (encoded_items is)
unfolding encoded_items
items-below [] = omega arith
items-below (i ∷ is) =
    omega (arith, length-append (encoded_item i) (encoded_items is), length-encoded-item i, item-large i, items-below is)

pub items-below-length : (is : List Item) → length is ≤ length (encoded_file is)
unfolding encoded_file
items-below-length is = omega (arith, length-append (encoded_items is) (encoded_end (length (rules is))), items-below is)

-- the records of an append
pub encoded-items-append : (is js : List Item) → encoded_items (is ++ js) ≡ encoded_items is ++ encoded_items js
unfolding encoded_items
encoded-items-append [] js = refl
encoded-items-append (i ∷ is) js =
    ap (λ (bs : List ℕ). encoded_item i ++ bs) (encoded-items-append is js) ∙ sym (append_assoc (encoded_item i) (encoded_items is) (encoded_items js))

-- the written rules take no more bytes than the file
pub rules-within : (is : List Item) → length (encoded_rules (rules is)) ≤ length (encoded_items is)
unfolding encoded_items encoded_item encoded_rules rules
rules-within [] = omega arith
rules-within (rule r ∷ is) =
    omega (arith, length-append (encoded_rule r) (encoded_items is), length-append (encoded_rule r) (encoded_rules (rules is)), rules-within is)
rules-within (override o ∷ is) = omega (arith, length-append (encoded_override o) (encoded_items is), rules-within is)
rules-within (opposition x ∷ is) = omega (arith, length-append (encoded_opposition x) (encoded_items is), rules-within is)
