-- `numbers::sum_counts`: the first counts are sums, and the others are as they came.
-- Assumes nothing.
use Rattle.aspif_number.proofs.Laws.Sum.{Summing}
use Rattle.aspif_number.proofs.numbers.sum_counts.Given as goal

abbrev pub invariant-loop-count : goal.invariant-loop-count
invariant-loop-count l = Summing l.initial.counts l.counts l.sum l.count-index
