-- The way from the start is the way that is left, from literal i on, behind the key `last`.
-- Assumes nothing.
use Rattle.std.proofs.Common.{◌+◌, ◌-◌, ◌*◌, ◌≡◌}
use Rattle.set.specs.Code.{members_above}
use Rattle.set.proofs.read.read_members.Given as goal

abbrev pub invariant-loop-i : goal.invariant-loop-i
invariant-loop-i l = members_above l.lim l.s 4 0 l.count ≡ members_above l.lim l.s (4 + 5 * l.i) l.last (l.count - l.i)
