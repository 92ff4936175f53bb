-- The marks that the rules of a program add to a set (01, "Translation": what an extension adds), in rule order.
-- In order: the derivation marks of options; what a rule adds; what a program adds.
-- Assumes nothing.
use Rattle.std.specs.Prelude.{ℕ, ◌+◌, cond, not, ◌&&◌, List, [], ◌∷◌, ◌++◌}
use Rattle.literal.specs.declared.Tag.{Tag}
use Rattle.literal.specs.declared.SignedAtom.{SignedAtom}
use Rattle.literal.specs.declared.Literal.{Literal}
use Rattle.literal.specs.declared.Literal.TheVariants.{Signed, Defeated, Derived}
use Rattle.semantics.specs.Set.{LiteralSet}
use Rattle.semantics.specs.Rule.{Rule, strict, defeasible, Program}
use Rattle.semantics.specs.Translation.{rule_defeated}
use Rattle.semantics.specs.Extension.{defeated_rule}

-- derived (t, a) for each option a that is in s and not defeated
unfoldable pub derived_marks : Tag → List SignedAtom → LiteralSet → List Literal
derived_marks t [] s = []
derived_marks t (a ∷ h) s = cond (s (Signed a) && not (s (Defeated t a))) (Derived t a ∷ derived_marks t h s) (derived_marks t h s)

-- what rule number n adds: its derivation marks, and rule-defeated n where all its options are defeated
unfoldable pub rule_marks : ℕ → Rule → LiteralSet → List Literal
rule_marks n (strict h b c) s = []
rule_marks n (defeasible t h b c) s =
    derived_marks t h s ++ cond (defeated_rule s (defeasible t h b c)) (rule_defeated n ∷ []) []

-- what a program whose first rule has number n adds
unfoldable pub marks_from : ℕ → Program → LiteralSet → List Literal
marks_from n [] s = []
marks_from n (r ∷ p) s = rule_marks n r s ++ marks_from (n + 1) p s
