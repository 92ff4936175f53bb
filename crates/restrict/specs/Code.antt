-- How code restricts a set in its slice: marks come behind all source kinds, so a front of the literals is kept.
-- Assumes nothing.
use Rattle.std.specs.Prelude.{ℕ, zero, suc, ◌+◌, cond, List, leb, get_or}

-- of n literals from `at` on, how many stand before the first of kinds 4 to 6
unfoldable pub source_front : List ℕ → ℕ → ℕ → ℕ
source_front s at zero = 0
source_front s at (suc n) = cond (leb (get_or s at 0) 3) (source_front s (at + 5) n + 1) 0
