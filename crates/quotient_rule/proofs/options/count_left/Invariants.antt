-- The options found, and those that are left of the rest, are all that are left.
use Rattle.std.proofs.Common.{◌+◌, ◌*◌, ◌-◌, ◌≤◌, ◌≡◌, length}
use Rattle.quotient_rule.specs.Code.{left_at}
use Rattle.quotient_rule.proofs.options.count_left.Given as goal

abbrev pub invariant-loop-i : goal.invariant-loop-i
invariant-loop-i l =
    (l.left ≤ l.i)
    × (l.left + length (left_at l.t l.set.bytes.now l.set.count (7 + 5 * l.i) (l.heads - l.i)) ≡ length (left_at l.t l.set.bytes.now l.set.count 7 l.heads))
