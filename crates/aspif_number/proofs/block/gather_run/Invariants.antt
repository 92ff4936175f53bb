-- `block::gather_run`: what is left to gather makes of the arrays what all of the run makes of those that came.
-- Assumes nothing.
use Rattle.std.proofs.Common.{◌+◌, ◌*◌, ◌-◌}
use Rattle.aspif_number.proofs.Laws.Gather.{Gathering}
use Rattle.aspif_number.proofs.block.gather_run.Given as goal

abbrev pub invariant-loop-j : goal.invariant-loop-j
invariant-loop-j l =
    Gathering l.s l.bits l.from l.count l.to l.initial.masks l.initial.numbers l.masks l.numbers (l.from + 5 * l.j) (l.count - l.j) (l.to + l.j)
