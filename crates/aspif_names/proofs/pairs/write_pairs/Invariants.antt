-- `pairs::write_pairs`: what the places from a on have is left to write at `next`.
-- Assumes nothing.
use Rattle.aspif_names.specs.Code.{pair_at, pair_lines}
use Rattle.aspif_names.proofs.Laws.Places.{Filling}
use Rattle.aspif_names.proofs.pairs.write_pairs.Given as goal

abbrev pub invariant-loop-a : goal.invariant-loop-a
invariant-loop-a l = Filling (pair_at l.numbering) (pair_lines l.numbering) l.initial.out l.out l.to l.a l.next
