-- `sign::is_negated` meets its contract: it is the definition.
-- Assumes nothing.
use mathlib.Core.Path.{refl}
use Rattle.literal.specs.Literal.{negated_kind}
use Rattle.literal_decode.proofs.sign.is_negated.Statement.{statement}
use Rattle.literal_decode.proofs.sign.is_negated.Tie as tie

returns : tie.Need-returns
unfolding negated_kind
returns c = refl

pub is_negated_spec : {M : Type 1} → statement M
is_negated_spec = tie.close (tie.spec returns)
