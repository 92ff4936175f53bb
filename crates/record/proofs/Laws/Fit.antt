-- The literals in bytes have fields that fit two bytes each, whatever the form.
-- In order: literals one behind the other; those that a rule speaks of; those of a program.
-- Assumes nothing.
use Prim.Native.Nat.{ℕ, ◌<◌}
use native.Mathlib.Omega.{arith}
use mathlib.Core.Path.{◌≡◌, subst}
use mathlib.Core.List.{List, [], ◌∷◌, ◌++◌, map}
use lib.ListN.{length}
use Rattle.buffer.specs.Bytes.{Bytes}
use Rattle.buffer.proofs.Laws.Bytes.{bytes-front, bytes-behind, bytes_drop}
use Rattle.literal.specs.declared.Tag.{Tag}
use Rattle.literal.specs.declared.SignedAtom.{SignedAtom}
use Rattle.literal.specs.declared.Literal.{Literal}
use Rattle.literal.specs.declared.Literal.TheVariants.{Signed, Defeated}
use Rattle.literal.specs.Literal.{tag_field, atom_field, encoded}
use Rattle.literal.proofs.Laws.Literal.{Fits, encoded-fits}
use Rattle.semantics.specs.Rule.{Rule, strict, defeasible, Program, head, positive, naf}
use Rattle.semantics.proofs.Laws.Tests.{Each, each_left, each_right}
use Rattle.semantics.proofs.Laws.Agree.{defeat_marks, Speaks}
use Rattle.record.specs.Layout.{encoded_literals, rule_record, encoded_rule, encoded_rules, encoded_end, encoded_program}

-- literals one behind the other
pub literals-fit : (ls : List Literal) → Bytes (encoded_literals ls) → Each Fits ls
unfolding encoded_literals
literals-fit [] bytes = tt
literals-fit (l ∷ ls) bytes =
    (encoded-fits l (encoded_literals ls) bytes, literals-fit ls (bytes-behind (encoded l) (encoded_literals ls) bytes))

-- the defeat marks of options
pub marks-fit : (t : Tag) → t.0 < 65536 → (h : List SignedAtom) → Each Fits (map Signed h) → Each Fits (map (Defeated t) h)
unfolding tag_field atom_field
marks-fit t tag [] e = tt
marks-fit t tag (a ∷ h) e = ((tag, e.0.1), marks-fit t tag h e.1)

-- a record's literals, behind its header
behind-fit : (letter tag : ℕ) (h b c : List Literal) → Bytes (rule_record letter tag h b c) → Each Fits (h ++ (b ++ c))
unfolding rule_record
behind-fit letter tag h b c bytes = literals-fit (h ++ (b ++ c)) (bytes_drop 7 (rule_record letter tag h b c) bytes)

-- a rule speaks only of such literals where those of its record are
speaks : (r : Rule) → Each Fits (head r ++ (positive r ++ naf r)) → (Each Fits (head r) → Each Fits (defeat_marks r)) → Speaks Fits r
speaks r e marks =
    let heads = each_left Fits (head r) (positive r ++ naf r) e in
    let body = each_right Fits (head r) (positive r ++ naf r) e in
    record { heads = heads; positives = each_left Fits (positive r) (naf r) body; nafs = each_right Fits (positive r) (naf r) body; marks = marks heads }

-- and they are where the record is bytes
pub rule_fits : (r : Rule) → Bytes (encoded_rule r) → Speaks Fits r
unfolding encoded_rule rule_record head positive naf defeat_marks
rule_fits (strict h b c) bytes = speaks (strict h b c) (behind-fit _ 0 h b c bytes) (λ e. tt)
rule_fits (defeasible t h b c) bytes =
    speaks (defeasible t h b c) (behind-fit _ t.0 (map Signed h) b c bytes) (marks-fit t (omega (arith, bytes 2)) h)

rules-fit : (p : Program) → Bytes (encoded_rules p) → Each (Speaks Fits) p
unfolding encoded_rules
rules-fit [] bytes = tt
rules-fit (r ∷ p) bytes =
    (rule_fits r (bytes-front (encoded_rule r) (encoded_rules p) bytes), rules-fit p (bytes-behind (encoded_rule r) (encoded_rules p) bytes))

-- so does each rule of a program
pub program-fits : (s : List ℕ) (p : Program) → Bytes s → s ≡ encoded_program p → Each (Speaks Fits) p
unfolding encoded_program
program-fits s p bytes e = rules-fit p (bytes-front (encoded_rules p) (encoded_end (length p)) (subst Bytes e bytes))
