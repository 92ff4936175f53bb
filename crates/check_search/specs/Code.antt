-- What the search over masks finds. A mask's positions, read from the highest, are the literals in ascending order, so of two
-- masks the first, absent before present, is the smaller number.
-- In order: any mask with a property; the first, where one is found, and where one may be; masks between two bounds with a property.
-- Assumes nothing.
use Rattle.std.specs.Prelude.{ℕ, ◌≤◌, Option, MatchOption}
use Rattle.check_force.specs.Code.{Between}

-- no mask has P
abbrev pub Never : (ℕ → Type 0) → Type 0
Never P = (x : ℕ) → P x → ⊥

-- r is a mask with P, or there is none
abbrev pub Any : (ℕ → Type 0) → Option ℕ → Type 0
Any P r = MatchOption r (Never P) P

-- m is the smallest mask with P
pub record Least (P : ℕ → Type 0) (m : ℕ) : Type 0 where
  pub passes : P m
  pub least : (x : ℕ) → P x → m ≤ x

-- r is the smallest mask with P, or there is none
abbrev pub First : (ℕ → Type 0) → Option ℕ → Type 0
First P r = MatchOption r (Never P) (Least P)

-- a mask between the bounds that has P
pub record Candidate (P : ℕ → Type 0) (must may x : ℕ) : Type 0 where
  pub between : Between must may x
  pub has : P x
