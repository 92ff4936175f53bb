-- `pairs::measure_pairs`: what the places below a have is measured.
-- Assumes nothing.
use Rattle.aspif_names.specs.Code.{pair_at, pair_lines}
use Rattle.aspif_names.proofs.Laws.Places.{Measuring}
use Rattle.aspif_names.proofs.pairs.measure_pairs.Given as goal

abbrev pub invariant-loop-a : goal.invariant-loop-a
invariant-loop-a l = Measuring (pair_at l.numbering) (pair_lines l.numbering) l.a l.total
