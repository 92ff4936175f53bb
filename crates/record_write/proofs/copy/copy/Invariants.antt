-- What is to be written at `to` is what is left to write behind the bytes that are written.
use Rattle.std.proofs.Common.{◌≡◌, ◌+◌, ◌-◌, take, drop}
use Rattle.buffer.specs.Write.{write}
use Rattle.record_write.proofs.copy.copy.Given as goal

abbrev pub invariant-loop-i : goal.invariant-loop-i
invariant-loop-i l = write l.fn.out l.to (take l.count (drop l.from l.s)) ≡ write l.out (l.to + l.i) (take (l.count - l.i) (drop (l.from + l.i) l.s))
