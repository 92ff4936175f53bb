-- The mask and the positions of the literals left are all the positions.
use Rattle.std.proofs.Common.{◌≡◌, ◌+◌, ◌-◌, ◌*◌, bit_or}
use Rattle.check_clauses.specs.Code.{key_mask, keys_at, union}
use Rattle.check_clauses.proofs.masks.Positions.mask_heads.Given as goal

abbrev pub invariant-loop-i : goal.invariant-loop-i
invariant-loop-i l =
    let f = key_mask l.self.set.bytes.now l.self.set.count in
    union f (keys_at l.t l.from l.n) ≡ bit_or l.mask (union f (keys_at l.t (l.from + 5 * l.i) (l.n - l.i)))
