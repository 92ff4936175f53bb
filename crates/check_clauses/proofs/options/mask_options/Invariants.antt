-- The options found and those that are left of the rest are all that are left, and so are their positions.
use Rattle.std.proofs.Common.{◌≡◌, ◌≤◌, ◌+◌, ◌-◌, ◌*◌, bit_or, length}
use Rattle.quotient_rule.specs.Code.{left_at}
use Rattle.check_clauses.specs.Code.{union, literal_mask}
use Rattle.check_clauses.proofs.options.mask_options.Given as goal

abbrev pub invariant-loop-i : goal.invariant-loop-i
invariant-loop-i l =
    let s = l.set.set.bytes.now in
    let n = l.set.set.count in
    let all = left_at l.t s n 7 l.heads in
    let rest = left_at l.t s n (7 + 5 * l.i) (l.heads - l.i) in
    record {
      few : l.count ≤ l.i;
      found : l.count + length rest ≡ length all;
      gathered : union (literal_mask s n) all ≡ bit_or l.mask (union (literal_mask s n) rest);
    }
