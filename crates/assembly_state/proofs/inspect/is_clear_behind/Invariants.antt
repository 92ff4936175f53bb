-- `inspect::is_clear_behind`: the largest byte that was looked at is 0 or not, and the rest decides.
-- Assumes nothing.
use Rattle.std.proofs.Common.{◌+◌, ◌-◌}
use Rattle.assembly_state.proofs.Laws.Tally.{Clearing}
use Rattle.assembly_state.proofs.inspect.is_clear_behind.Given as goal

abbrev pub invariant-loop-i : goal.invariant-loop-i
invariant-loop-i l = Clearing l.lim l.state l.rules l.most (8 + l.i) (l.lim.rules - l.i)
