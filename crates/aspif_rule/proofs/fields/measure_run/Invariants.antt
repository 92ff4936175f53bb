-- `fields::measure_run`: what was measured and what is left are the whole.
-- Assumes nothing.
use Rattle.std.proofs.Common.{◌+◌, ◌*◌, ◌-◌}
use Rattle.aspif_rule.proofs.Laws.Run.{Measuring}
use Rattle.aspif_rule.proofs.fields.measure_run.Given as goal

abbrev pub invariant-loop-i : goal.invariant-loop-i
invariant-loop-i l = Measuring l.numbering l.s l.from l.count (l.from + 5 * l.i) (l.count - l.i) l.total
