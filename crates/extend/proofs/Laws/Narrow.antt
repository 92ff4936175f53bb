-- Fields that fit two bytes: those of the marks of a program that speaks of such literals, and what a file's rules speak of.
-- In order: the marks of a rule, of a program; the literals of a file's rules.
-- Assumes nothing.
use Prim.Native.Nat.{ℕ, ◌+◌, ◌≤◌, ◌<◌}
use native.Mathlib.Omega.{arith}
use mathlib.Core.Path.{◌≡◌, subst}
use mathlib.Core.List.Memᴰ
use mathlib.Core.List.{List, [], ◌∷◌}
use lib.ListN.{length}
use Rattle.buffer.specs.Bytes.{Bytes}
use Rattle.buffer.proofs.Laws.Bytes.{bytes-front, bytes-behind}
use Rattle.literal.specs.declared.Literal.TheVariants.{Defeated}
use Rattle.literal.specs.Literal.{tag_field, atom_field}
use Rattle.literal.proofs.Laws.Literal.{Fits}
use Rattle.semantics.specs.Set.{LiteralSet}
use Rattle.semantics.specs.Rule.{Rule, strict, defeasible, Program}
use Rattle.semantics.specs.Item.{Item, rule, override, opposition, rules}
use Rattle.semantics.proofs.Laws.Tests.{Each, each-mem}
use Rattle.semantics.proofs.Laws.Agree.{defeat_marks, Speaks}
use Rattle.record.specs.Layout.{encoded_rule, encoded_end, encoded_override, encoded_opposition, encoded_item, encoded_items, encoded_file}
use Rattle.record.proofs.Laws.Fit.{rule_fits}
use Rattle.extend_marks.specs.Marks.{marks_from}
use Rattle.extend_marks.proofs.Laws.Each.{Adds, each-mark}

marks-of : (n : ℕ) (r : Rule) → n < 65536 → Speaks Fits r → Adds Fits n r
unfolding tag_field atom_field defeat_marks
marks-of n (strict h b c) l w = tt
marks-of n (defeasible t h b c) l w = ((λ a m. each-mem Fits w.marks (Memᴰ.map (Defeated t) m)), (omega arith, l))

pub marks-fit : (s : LiteralSet) (n : ℕ) (p : Program) → n + length p ≤ 65536 → Each (Speaks Fits) p → Each Fits (marks_from n p s)
marks-fit s n p l w = each-mark Fits s n p (λ m r h i. marks-of m r (omega arith) (each-mem (Speaks Fits) w i))

-- the rules of items in bytes speak of such literals
items-fit : (is : List Item) → Bytes (encoded_items is) → Each (Speaks Fits) (rules is)
unfolding encoded_items encoded_item rules
items-fit [] bytes = tt
items-fit (rule r ∷ is) bytes =
    (rule_fits r (bytes-front (encoded_rule r) (encoded_items is) bytes), items-fit is (bytes-behind (encoded_rule r) (encoded_items is) bytes))
items-fit (override o ∷ is) bytes = items-fit is (bytes-behind (encoded_override o) (encoded_items is) bytes)
items-fit (opposition x ∷ is) bytes = items-fit is (bytes-behind (encoded_opposition x) (encoded_items is) bytes)

pub file-fits : (s : List ℕ) (is : List Item) → Bytes s → s ≡ encoded_file is → Each (Speaks Fits) (rules is)
unfolding encoded_file
file-fits s is bytes e = items-fit is (bytes-front (encoded_items is) (encoded_end (length (rules is))) (subst Bytes e bytes))
