-- A program and a set in one call (01, "Quotient": a refusal met in the program ends the call before the set is read).
-- Not here: what reading both answers (`Code`). Assumes nothing.
use Rattle.std.specs.Prelude.{ℕ, List}
use Rattle.literal.specs.declared.Limits.{Limits}
use Rattle.literal.specs.declared.Literal.{Literal}
use Rattle.semantics.specs.Rule.{Program}
use Rattle.record.specs.Result.{Answer, and_then}
use Rattle.record.specs.Reading.{parsed}
use Rattle.set.specs.Reading.{parsed_set}

-- the program's refusals, then those of a set of at most `most` literals, then what an operation makes of the two
unfoldable pub with_inputs : {A : Type 0} → Limits → ℕ → List ℕ → List ℕ → (Program → List Literal → Answer A) → Answer A
with_inputs F most s k f = and_then (parsed F s) (λ p. and_then (parsed_set F most k) (f p))
