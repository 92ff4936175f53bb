-- The mask and the positions of the literals left are all the positions, and the set has each literal if it has each of those left.
use Rattle.std.proofs.Common.{◌≡◌, ◌+◌, ◌-◌, ◌*◌, bit_or}
use Rattle.semantics.specs.Set.{each_of}
use Rattle.set.specs.Code.{has_key}
use Rattle.check_clauses.specs.Code.{key_mask, keys_at, union}
use Rattle.check_clauses.proofs.masks.Positions.mask_positives.Given as goal

abbrev pub invariant-loop-i : goal.invariant-loop-i
invariant-loop-i l =
    let f = key_mask l.self.set.bytes.now l.self.set.count in
    let all = keys_at l.t l.from l.n in
    let rest = keys_at l.t (l.from + 5 * l.i) (l.n - l.i) in
    (union f all ≡ bit_or l.mask (union f rest)) × (each_of (has_key l.self.set.bytes.now l.self.set.count) all ≡ each_of (has_key l.self.set.bytes.now l.self.set.count) rest)
