-- How code keeps a set of positions, as a number: position i is in it if the binary digit i, counted from the lowest, is set.
-- In order: a position is in a mask; parts of a mask; masks apart; a mask of one position; a position of a mask, the highest.
-- Not here: what the positions stand for (`check_force`).
-- Assumes nothing.
use Rattle.std.specs.Prelude.{ℕ, zero, suc, ◌*◌, ◌/◌, ◌%◌, ◌<◌, ◌≡◌, Bool, eqb}
use Rattle.std.specs.Int.Bits.{bit_and}

-- position i is in the mask m
unfoldable pub has : ℕ → ℕ → Bool
has m zero = eqb (m % 2) 1
has m (suc i) = has (m / 2) i

-- each position of a is one of b
abbrev pub Within : ℕ → ℕ → Type 0
Within a b = bit_and a b ≡ a

-- no position of a is one of b
abbrev pub Apart : ℕ → ℕ → Type 0
Apart a b = bit_and a b ≡ 0

-- m has at most one position: a mask that is not apart from it has all of it
pub record Single (m : ℕ) : Type 0 where
  pub whole : (x : ℕ) → (Apart m x → ⊥) → Within m x

-- b is one position of m
pub record Position (m b : ℕ) : Type 0 where
  pub within : Within b m
  pub single : Single b
  pub some : 0 < b

-- b is the highest position of m
pub record Highest (m b : ℕ) : Type 0 where
  pub position : Position m b
  pub above : m < b * 2
