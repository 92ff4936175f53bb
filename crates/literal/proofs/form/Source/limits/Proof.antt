-- `form::Source::limits` meets its contract: the constants are the figures of `source`.
-- Assumes nothing.
use mathlib.Core.Path.{refl}
use Rattle.literal.specs.Limits.{source}
use Rattle.literal.proofs.form.Source.limits.Statement.{statement}
use Rattle.literal.proofs.form.Source.limits.Tie as tie

returns : tie.Need-returns
unfolding source
returns c = refl

pub limits_spec : {M : Type 1} → statement M
limits_spec = tie.close (tie.spec returns)
