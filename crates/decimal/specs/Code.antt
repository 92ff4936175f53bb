-- What functions say of decimals: how many figures were counted; four figures, and four in one number; bytes in one number, and a table of
-- the figures of numbers below 1000.
-- Assumes nothing.
use Rattle.std.specs.Prelude.{ℕ, ◌+◌, ◌*◌, ◌/◌, ◌%◌, ◌≤◌, ◌<◌, ◌≡◌, List, [], ◌∷◌, length, get_or}
use Rattle.decimal.specs.Decimal.{figure, decimal}

-- r figures; the bounds are for sums of such counts
pub record Counted (n r : ℕ) : Type 0 where
  pub figures : r ≡ length (decimal n)
  pub least : 1 ≤ r
  pub most : r ≤ 10

-- the last four figures of n, 0 where it has fewer
abbrev pub four_figures : ℕ → List ℕ
four_figures n = figure (n / 1000 % 10) ∷ figure (n / 100 % 10) ∷ figure (n / 10 % 10) ∷ figure (n % 10) ∷ []

-- the bytes of r, the lowest first, are the last four figures of n
pub record Packed (n r : ℕ) : Type 0 where
  pub first : r % 256 ≡ figure (n / 1000 % 10)
  pub second : r / 256 % 256 ≡ figure (n / 100 % 10)
  pub third : r / 65536 % 256 ≡ figure (n / 10 % 10)
  pub fourth : r / 16777216 ≡ figure (n % 10)

-- the number whose bytes, the lowest first, are these
unfoldable pub joined : List ℕ → ℕ
joined [] = 0
joined (b ∷ bs) = b + 256 * joined bs

-- the three last figures of k, 0 where it has fewer, the first in the lowest byte; in the fourth byte how many figures k has
abbrev pub three_figures : ℕ → ℕ
three_figures k = figure (k / 100) + 256 * figure (k / 10 % 10) + 65536 * figure (k % 10) + 16777216 * length (decimal k)

-- the table has the figures of each number below 1000
pub record Figures (table : List ℕ) : Type 0 where
  pub long : length table ≡ 1000
  pub entry : (k : ℕ) → k < 1000 → get_or table k 0 ≡ three_figures k
