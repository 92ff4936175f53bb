-- Reading goes on from `at` on as it would have from the start of the run on; the bytes left fall.
-- Assumes nothing.
use Rattle.std.proofs.Common.{◌-◌, length}
use Rattle.record_read.proofs.Laws.Run.{Going}
use Rattle.record_read.proofs.read.read_rules.Given as goal

abbrev pub invariant-loop-size : goal.invariant-loop-size
invariant-loop-size l = Going l.lim l.s l.from l.initial.rules l.at l.rules

abbrev pub decreases-loop-size : goal.decreases-loop-size
decreases-loop-size l = length l.s - l.at
