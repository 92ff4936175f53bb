-- How the check writes a smaller model: the part of a set's slice that a mask of positions picks, as an A: record.
-- Of n literals the first has position n - 1 and the last position 0.
-- In order: one literal; a run of literals; the record. Assumes nothing.
use Rattle.std.specs.Prelude.{ℕ, zero, suc, ◌+◌, ◌/◌, cond, List, [], ◌++◌, length, take, drop}
use Rattle.mask.specs.Code.{has}
use Rattle.set.specs.Code.{set_header}

-- the bytes of the literal of position i, where x has it
unfoldable pub picked_one : ℕ → ℕ → List ℕ → List ℕ
picked_one x i bs = cond (has x i) bs []

-- the bytes of those of n literals from `at` on whose positions are in x
unfoldable pub picked_bytes : ℕ → List ℕ → ℕ → ℕ → List ℕ
picked_bytes x s at zero = []
picked_bytes x s at (suc i) = picked_one x i (take 5 (drop at s)) ++ picked_bytes x s (at + 5) i

-- their record, from a set with n literals in s
unfoldable pub picked_record : ℕ → List ℕ → ℕ → List ℕ
picked_record x s n = set_header (length (picked_bytes x s 4 n) / 5) ++ picked_bytes x s 4 n
