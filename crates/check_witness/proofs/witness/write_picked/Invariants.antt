-- What is to be written behind the count is what is left to write at `to`, and no more is written than was read.
use Rattle.std.proofs.Common.{◌≡◌, ◌+◌, ◌-◌, ◌*◌, ◌≤◌, length}
use Rattle.buffer.specs.Write.{write}
use Rattle.check_witness.specs.Code.{picked_bytes}
use Rattle.check_witness.proofs.witness.write_picked.Given as goal

abbrev pub invariant-loop-i : goal.invariant-loop-i
invariant-loop-i l =
    let all = picked_bytes l.model l.set 4 l.n in
    let rest = picked_bytes l.model l.set (4 + 5 * l.i) (l.n - l.i) in
    record {
      most : l.to ≤ 4 + 5 * l.i;
      least : 4 ≤ l.to;
      written : write l.fn.out 4 all ≡ write l.out l.to rest;
      long : 4 + length all ≡ l.to + length rest;
    }
