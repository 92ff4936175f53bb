-- The answer is what is held and what the literals that are left come to.
-- Assumes nothing.
use Rattle.std.proofs.Common.{◌+◌, ◌-◌, ◌*◌, ◌≡◌}
use Rattle.restrict.specs.Code.{source_front}
use Rattle.restrict.proofs.restrict.count_front.Given as goal

abbrev pub invariant-loop-held : goal.invariant-loop-held
invariant-loop-held l = source_front l.k 4 l.count ≡ l.held + source_front l.k (4 + 5 * l.held) (l.count - l.held)
