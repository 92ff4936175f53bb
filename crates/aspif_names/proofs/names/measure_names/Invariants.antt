-- `names::measure_names`: what the places below a have is measured.
-- Assumes nothing.
use Rattle.aspif_names.specs.Code.{name_at, name_lines}
use Rattle.aspif_names.proofs.Laws.Places.{Measuring}
use Rattle.aspif_names.proofs.names.measure_names.Given as goal

abbrev pub invariant-loop-a : goal.invariant-loop-a
invariant-loop-a l = Measuring (name_at l.numbering l.negated) (name_lines l.numbering l.negated) l.a l.total
