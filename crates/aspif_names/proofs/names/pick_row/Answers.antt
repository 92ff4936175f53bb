-- `names::pick_row`: each row by its sign.
-- Assumes nothing.
use Rattle.std.proofs.Common.{sym, ap}
use Rattle.aspif_names.specs.Code.{row_from}
use Rattle.aspif_names.proofs.names.pick_row.Goals as goal

pub returns-then-negated-clause-value : goal.returns-then-negated-clause-value
unfolding row_from
returns-then-negated-clause-value c = ap row_from (sym c.if-negated.true)

pub returns-clause-value : goal.returns-clause-value
unfolding row_from
returns-clause-value c = ap row_from (sym c.if-negated.false)
