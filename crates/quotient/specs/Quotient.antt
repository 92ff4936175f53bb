-- The quotient as bytes (01, "Quotient"), in either form: the program's refusals, then the set's, then 9.
-- Assumes nothing.
use Rattle.std.specs.Prelude.{ℕ, List, [], map, Ok}
use Rattle.literal.specs.declared.Limits.{Limits}
use Rattle.literal.specs.declared.Literal.{Literal}
use Rattle.semantics.specs.Set.{set_of}
use Rattle.semantics.specs.Rule.{Rule, strict, Program, Remainder}
use Rattle.semantics.specs.Meaning.{quotient}
use Rattle.record.specs.Result.{Answer, Outcome, delivered}
use Rattle.record.specs.Layout.{encoded_program}
use Rattle.inputs.specs.Inputs.{with_inputs}

-- a rule of a quotient as a strict rule without naf literals
unfoldable pub remainder_rule : Remainder → Rule
remainder_rule q = strict q.head q.positive []

-- the quotient of a program by the set of a list, as a program
unfoldable pub quotient_program : Program → List Literal → Program
quotient_program p ls = map remainder_rule (quotient p (set_of ls))

-- S: records with tag 0 in rule order, and an end record that counts them
unfoldable pub quotient_bytes : Limits → List ℕ → List ℕ → Answer (List ℕ)
quotient_bytes F s k = with_inputs F F.literals s k (λ p ls. Ok (encoded_program (quotient_program p ls)))

unfoldable pub quotiented : Limits → List ℕ → List ℕ → List ℕ → Outcome
quotiented F s k out = delivered (quotient_bytes F s k) out
