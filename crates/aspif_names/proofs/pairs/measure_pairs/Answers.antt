-- `pairs::measure_pairs`: what one place more has is measured.
-- Assumes nothing.
use Rattle.std.proofs.Common.{arith}
use Rattle.aspif_names.specs.Code.{pair_at, pair_lines}
use Rattle.aspif_names.proofs.Laws.Pairs.{pairs-places}
use Rattle.aspif_names.proofs.Laws.Places.{measuring-start, measuring-next, measuring-end}
use Rattle.aspif_names.proofs.pairs.measure_pairs.Goals as goal

pub loop-a-init : goal.loop-a-init
loop-a-init c = measuring-start (pair_at c.args.numbering.now) (pair_lines c.args.numbering.now) (pairs-places c.args.numbering.now)

pub loop-a-preserved : goal.loop-a-preserved
loop-a-preserved c = measuring-next c.loop-a.invariant (omega arith) _ c.measure_pair_at-total.ensures

pub returns : goal.returns
returns c = measuring-end c.loop-a.invariant (omega arith)
