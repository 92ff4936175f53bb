-- The run from the start is the run that is left, from literal i on.
-- Assumes nothing.
use Rattle.std.proofs.Common.{◌+◌, ◌-◌, ◌*◌, ◌≡◌}
use Rattle.record.specs.Reading.{literals_at}
use Rattle.record.specs.Code.{run_of}
use Rattle.record_step.proofs.step.read_literals.Given as goal

abbrev pub invariant-loop-i : goal.invariant-loop-i
invariant-loop-i l = run_of (literals_at l.lim l.t 7 l.count) ≡ run_of (literals_at l.lim l.t (7 + 5 * l.i) (l.count - l.i))
