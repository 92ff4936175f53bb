-- The options found, and those that are left of the rest, are all that are left; and what is to be written at `to` is what is left to
-- write behind those found.
use Rattle.std.proofs.Common.{◌+◌, ◌*◌, ◌-◌, ◌≤◌, ◌≡◌, length}
use Rattle.buffer.specs.Write.{write}
use Rattle.record.specs.Layout.{encoded_literals}
use Rattle.quotient_rule.specs.Code.{left_at}
use Rattle.quotient_rule.proofs.options.write_left.Given as goal

abbrev pub invariant-loop-i : goal.invariant-loop-i
invariant-loop-i l =
    let all = left_at l.t l.set.bytes.now l.set.count 7 l.heads in
    let rest = left_at l.t l.set.bytes.now l.set.count (7 + 5 * l.i) (l.heads - l.i) in
    record {
      few : l.found ≤ l.i;
      found : l.found + length rest ≡ length all;
      written : write l.fn.out l.to (encoded_literals all) ≡ write l.out (l.to + 5 * l.found) (encoded_literals rest);
    }
