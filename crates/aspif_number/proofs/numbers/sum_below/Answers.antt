-- `numbers::sum_below`: sums of the counts of single words are counts of the marks below.
-- Assumes nothing.
use Rattle.aspif_number.proofs.Laws.Rank.{sums-summed}
use Rattle.aspif_number.proofs.numbers.sum_below.Goals as goal

pub returns : goal.returns
returns c = sums-summed _ _ c.requires.tallied (λ w. (c.type_inv.bits w).fits) _ c.sum_counts.ensures
