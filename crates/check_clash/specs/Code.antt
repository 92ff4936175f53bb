-- How the check looks for a clash in a set's slice (01, "Check": the first literal whose opposite is in the set).
-- In order: the opposite of a literal in its slice; the first literal with one. Assumes nothing.
use Rattle.std.specs.Prelude.{ℕ, zero, suc, ◌+◌, Bool, cond, ◌&&◌, List, leb, get_or, drop, Option, Some, None}
use Rattle.buffer.specs.Bytes.{number_at}
use Rattle.literal.specs.declared.Literal.TheVariants.{Signed}
use Rattle.literal.specs.Literal.{opposite, signed_atom}
use Rattle.set.specs.Code.{key_set}

-- of a set with n literals in s: the literal at the start of t has an opposite, and the set holds it. Kinds 0 and 1 are
-- each other's opposite; marks have none
unfoldable pub opposed_in : List ℕ → ℕ → List ℕ → Bool
opposed_in s n t = leb (get_or t 0 0) 1 && key_set s n (Signed (opposite (signed_atom (get_or t 0 0) (number_at t 3))))

-- of m literals from `at` on, the first of which has position k: the position of the first one with its opposite in the set
unfoldable pub clash_at : List ℕ → ℕ → ℕ → ℕ → ℕ → Option ℕ
clash_at s n k at zero = None
clash_at s n k at (suc m) = cond (opposed_in s n (drop at s)) (Some k) (clash_at s n (k + 1) (at + 5) m)
