-- `inspect::tally_shapes`: what was added up, and what is left, come to the whole.
-- Assumes nothing.
use Rattle.std.proofs.Common.{◌+◌, ◌-◌}
use Rattle.assembly_state.proofs.Laws.Tally.{Tallying}
use Rattle.assembly_state.proofs.inspect.tally_shapes.Given as goal

abbrev pub invariant-loop-i : goal.invariant-loop-i
invariant-loop-i l = Tallying l.lim l.state l.rules l.shapes (8 + l.i) (l.rules - l.i)
