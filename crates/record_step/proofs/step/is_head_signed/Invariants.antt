-- The kinds from the start are signed if those left, from literal i on, are.
-- Assumes nothing.
use Rattle.std.proofs.Common.{◌+◌, ◌-◌, ◌*◌, ◌≡◌}
use Rattle.record.specs.Code.{signed_kinds}
use Rattle.record_step.proofs.step.is_head_signed.Given as goal

abbrev pub invariant-loop-i : goal.invariant-loop-i
invariant-loop-i l = signed_kinds l.t 7 l.heads ≡ signed_kinds l.t (7 + 5 * l.i) (l.heads - l.i)
