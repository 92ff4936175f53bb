-- The answer is that of the literals left.
use Rattle.std.proofs.Common.{◌≡◌, ◌+◌, ◌-◌, ◌*◌}
use Rattle.check_clash.specs.Code.{clash_at}
use Rattle.check_clash.proofs.clash.find_clash.Given as goal

abbrev pub invariant-loop-i : goal.invariant-loop-i
invariant-loop-i l =
    clash_at l.set.bytes.now l.set.count 1 4 l.set.count ≡ clash_at l.set.bytes.now l.set.count (1 + l.i) (4 + 5 * l.i) (l.set.count - l.i)
