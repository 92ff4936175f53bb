-- How code names the two marks of an option (01, "Translation").
-- Not here: the rules that name them (`semantics`), their layout (`record`).
-- Assumes nothing.
use Rattle.std.specs.Prelude.{Bool, true, false}
use Rattle.literal.specs.declared.Tag.{Tag}
use Rattle.literal.specs.declared.SignedAtom.{SignedAtom}
use Rattle.literal.specs.declared.Literal.{Literal}
use Rattle.literal.specs.declared.Literal.TheVariants.{Defeated, Derived}

-- the derivation mark of an option, or its defeat mark
unfoldable pub mark_of : Bool → Tag → SignedAtom → Literal
mark_of true = Derived
mark_of false = Defeated
