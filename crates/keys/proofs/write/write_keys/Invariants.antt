-- What is to be written at `to` is what is left to write.
use Rattle.std.proofs.Common.{◌≡◌, ◌+◌, ◌*◌, drop}
use Rattle.buffer.specs.Write.{write}
use Rattle.keys.specs.Code.{key_bytes}
use Rattle.keys.proofs.write.write_keys.Given as goal

abbrev pub invariant-loop-i : goal.invariant-loop-i
invariant-loop-i l = write l.fn.out l.to (key_bytes l.keys) ≡ write l.out (l.to + 5 * l.i) (key_bytes (drop l.i l.keys))
