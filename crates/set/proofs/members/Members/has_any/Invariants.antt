-- One of the literals is in the set if one of those left is.
use Rattle.std.proofs.Common.{◌≡◌, ◌+◌, ◌-◌, ◌*◌}
use Rattle.set.specs.Code.{any_key}
use Rattle.set.proofs.members.Members.has_any.Given as goal

abbrev pub invariant-loop-i : goal.invariant-loop-i
invariant-loop-i l =
    any_key l.self.bytes.now l.self.count l.n l.t l.from ≡ any_key l.self.bytes.now l.self.count (l.n - l.i) l.t (l.from + 5 * l.i)
