-- How code tells what the two rows of a state say: sums and the largest figures alone.
-- In order: the head and the body literals of shapes; figures within the limits; zeros; what shapes come to.
-- Assumes nothing.
use Rattle.std.specs.Prelude.{ℕ, ◌+◌, ◌-◌, ◌≡◌, Bool, ◌&&◌, List, [], ◌∷◌, leb}
use Rattle.literal.specs.declared.Limits.{Limits}
use Rattle.semantics.specs.Set.{each_of}
use Rattle.assembly.specs.State.{Shape, keeps_shape, shapes_at, clear_at}
use Rattle.assembly_state.specs.declared.Tally.{Tally}

-- the literals of the rules with these shapes
unfoldable pub heads_of : List Shape → ℕ
heads_of [] = 0
heads_of (s ∷ ss) = s.heads + heads_of ss

unfoldable pub body_of : List Shape → ℕ
body_of [] = 0
body_of (s ∷ ss) = s.body + body_of ss

-- within the limits are the rules of these figures: the most head literals, the most body literals
abbrev pub within : Limits → ℕ → ℕ → Bool
within F h b = leb h F.heads && leb b (F.positives + F.nafs)

-- zeros behind n rules, in both rows
abbrev pub clear_behind : Limits → List ℕ → ℕ → Bool
clear_behind F bs n = clear_at bs (8 + n) (F.rules - n) && clear_at bs (8 + F.rules + n) (F.rules - n)

-- the shapes of n rules come to r: all are within the limits exactly if the largest figures are
pub record Tallied (F : Limits) (bs : List ℕ) (n : ℕ) (r : Tally) : Type 0 where
  pub each : each_of (keeps_shape F) (shapes_at bs 8 (8 + F.rules) n) ≡ within F r.heads.most r.body.most
  pub heads : heads_of (shapes_at bs 8 (8 + F.rules) n) ≡ r.heads.sum
  pub body : body_of (shapes_at bs 8 (8 + F.rules) n) ≡ r.body.sum
