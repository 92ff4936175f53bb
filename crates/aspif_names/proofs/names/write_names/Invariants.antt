-- `names::write_names`: what the places from a on have is left to write at `next`.
-- Assumes nothing.
use Rattle.aspif_names.specs.Code.{name_at, name_lines}
use Rattle.aspif_names.proofs.Laws.Places.{Filling}
use Rattle.aspif_names.proofs.names.write_names.Given as goal

abbrev pub invariant-loop-a : goal.invariant-loop-a
invariant-loop-a l = Filling (name_at l.numbering l.negated) (name_lines l.numbering l.negated) l.initial.out l.out l.to l.a l.next
