-- The extension of a source set, and restriction (01, "Translation").
-- In order: where an option stands; a rule all of whose options are defeated; the extension; restriction.
-- Not here: A: records (`extend`).
-- Assumes nothing.
use Rattle.std.specs.Prelude.{ℕ, ◌+◌, Bool, true, false, not, ◌&&◌, ◌||◌, [], ◌∷◌, eqb}
use Rattle.literal.specs.declared.Tag.{Tag}
use Rattle.literal.specs.declared.SignedAtom.{SignedAtom}
use Rattle.literal.specs.declared.Literal.{Literal}
use Rattle.literal.specs.declared.Literal.TheVariants.{Signed, Defeated, Derived, RuleDefeated}
use Rattle.semantics.specs.Set.{LiteralSet, some_of, each_of, same_tag, same_signed}
use Rattle.semantics.specs.Rule.{Rule, strict, defeasible, Program}

-- a is an option of this rule and t its tag
unfoldable pub offers : Tag → SignedAtom → Rule → Bool
offers t a (strict h b c) = false
offers t a (defeasible u h b c) = same_tag t u && some_of (same_signed a) h

-- all options of this rule are defeated in s
unfoldable pub defeated_rule : LiteralSet → Rule → Bool
defeated_rule s (strict h b c) = false
defeated_rule s (defeasible t h b c) = each_of (λ a. s (Defeated t a)) h

-- rule number n, of a program whose first rule has number k, is such a rule
unfoldable pub defeated_from : ℕ → Program → LiteralSet → ℕ → Bool
defeated_from k [] s n = false
defeated_from k (r ∷ p) s n = (eqb k n && defeated_rule s r) || defeated_from (k + 1) p s n

-- the marks that the extension of s adds: derived (t, a) for each defeasible rule's tag t and option a, where a is in s
-- and defeated (t, a) is not, whatever the rule's body; rule-defeated n for each rule n whose options are all defeated
unfoldable pub added : Program → LiteralSet → LiteralSet
added p s (Signed a) = false
added p s (Defeated t a) = false
added p s (Derived t a) = some_of (offers t a) p && (s (Signed a) && not (s (Defeated t a)))
added p s (RuleDefeated n) = defeated_from 1 p s n.0

unfoldable pub extension : Program → LiteralSet → LiteralSet
extension p s l = s l || added p s l

-- a literal of kind 0 to 3
unfoldable pub source_kind : Literal → Bool
source_kind (Signed a) = true
source_kind (Defeated t a) = true
source_kind (Derived t a) = false
source_kind (RuleDefeated n) = false

-- restriction drops kinds 4 to 6
unfoldable pub restriction : LiteralSet → LiteralSet
restriction s l = source_kind l && s l
