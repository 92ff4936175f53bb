-- The run that is left comes to what all of the run does, and what is left to mark makes of the words what all of it makes of those that came.
-- Assumes nothing.
use Rattle.std.proofs.Common.{◌+◌, ◌-◌, ◌*◌}
use Rattle.aspif_read.proofs.Laws.Literals.{Marking}
use Rattle.aspif_read.proofs.read.mark_literals.Given as goal

abbrev pub invariant-loop-k : goal.invariant-loop-k
invariant-loop-k l = Marking l.lim l.t l.count l.initial.bits l.bits l.counts (7 + 5 * l.k) (l.count - l.k)
