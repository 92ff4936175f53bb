-- `names::measure_names`: what one place more has is measured.
-- Assumes nothing.
use Rattle.std.proofs.Common.{arith}
use Rattle.aspif_names.specs.Code.{name_at, name_lines}
use Rattle.aspif_names.proofs.Laws.Names.{names-places}
use Rattle.aspif_names.proofs.Laws.Places.{measuring-start, measuring-next, measuring-end}
use Rattle.aspif_names.proofs.names.measure_names.Goals as goal

pub loop-a-init : goal.loop-a-init
loop-a-init c = measuring-start (name_at c.args.numbering.now c.args.negated) (name_lines c.args.numbering.now c.args.negated) (names-places c.args.numbering.now c.args.negated)

pub loop-a-preserved : goal.loop-a-preserved
loop-a-preserved c = measuring-next c.loop-a.invariant (omega arith) _ c.measure_name_at-total.ensures

pub returns : goal.returns
returns c = measuring-end c.loop-a.invariant (omega arith)
