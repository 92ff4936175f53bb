-- What the code of calls asks of a form's limits, and what it tells of a state.
-- In order: limits within which a state's figures have room; what a state says, as code answers it; one shape stored.
-- Assumes nothing.
use Rattle.std.specs.Prelude.{ℕ, ◌+◌, ◌*◌, ◌≤◌, ◌<◌, Bool, true, false, List, [], ◌∷◌, length}
use Rattle.buffer.specs.Bytes.{two_bytes}
use Rattle.buffer.specs.Write.{write}
use Rattle.literal.specs.declared.Limits.{Limits}
use Rattle.assembly.specs.declared.Standing.{Standing}
use Rattle.assembly.specs.State.{Stage, before, opened, closed, shapes, held_length}

-- the sums over a row fit two bytes, a byte of the first row tells a defeasible rule's heads from a strict one's, one of the second row
-- counts the body, and the records of as many rules, with an end record, are within the form's length
pub record Assemblable (F : Limits) : Type 0 where
  pub rules : F.rules ≤ 256
  pub heads : F.heads < 128
  pub body : F.positives + F.nafs < 256
  pub short : F.rules * (7 + 5 * (F.heads + (F.positives + F.nafs))) + 4 ≤ F.length

-- what a state says: whether it is open, how many rules are held, and how long their records are
unfoldable pub is_open : Stage → Bool
is_open before = false
is_open (opened ss) = true
is_open (closed ss) = false

unfoldable pub standing_of : Stage → Standing
standing_of s = record { active = is_open s; rules = length (shapes s); bytes = held_length (shapes s) }

-- the state with so many rules held, and these two bytes for the rule at a place among them
unfoldable pub with_shape : Limits → List ℕ → ℕ → ℕ → ℕ → ℕ → List ℕ
with_shape F st n place b c = write (write (write st 2 (two_bytes n)) (8 + place) (b ∷ [])) (8 + F.rules + place) (c ∷ [])
