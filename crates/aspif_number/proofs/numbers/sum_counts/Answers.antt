-- `numbers::sum_counts`: the next sum fits, and takes the place of a count.
-- Assumes nothing.
use Rattle.std.proofs.Common.{arith}
use Rattle.aspif_number.proofs.Laws.Sum.{summing_start, summing-next, summing-low}
use Rattle.aspif_number.proofs.numbers.sum_counts.Goals as goal

pub loop-count-init : goal.loop-count-init
loop-count-init c = summing_start c.args.counts.now

pub overflow_add-sum : goal.overflow_add-sum
overflow_add-sum c = omega (arith, summing-low c.loop-count.invariant c.requires (omega arith))

pub loop-count-preserved : goal.loop-count-preserved
loop-count-preserved c = summing-next c.loop-count.invariant (omega arith)
