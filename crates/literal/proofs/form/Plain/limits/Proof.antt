-- `form::Plain::limits` meets its contract: the constants are the figures of `plain`.
-- Assumes nothing.
use mathlib.Core.Path.{refl}
use Rattle.literal.specs.Limits.{plain}
use Rattle.literal.proofs.form.Plain.limits.Statement.{statement}
use Rattle.literal.proofs.form.Plain.limits.Tie as tie

returns : tie.Need-returns
unfolding plain
returns c = refl

pub limits_spec : {M : Type 1} → statement M
limits_spec = tie.close (tie.spec returns)
