-- The restriction as bytes (01, "Restrict"): 10, 12, 11, 9; the A: record without kinds 4 to 6, of any size.
-- In order: the restriction as a list; as bytes.
-- Assumes nothing.
use Rattle.std.specs.Prelude.{ℕ, cond, List, [], ◌∷◌, Ok}
use Rattle.literal.specs.declared.Limits.{Limits}
use Rattle.literal.specs.declared.Literal.{Literal}
use Rattle.semantics.specs.Extension.{source_kind}
use Rattle.record.specs.Result.{Answer, and_then, Outcome, delivered}
use Rattle.set.specs.Layout.{encoded_set}
use Rattle.set.specs.Reading.{parsed_set}

-- the literals of kinds 0 to 3, in order
unfoldable pub restriction_list : List Literal → List Literal
restriction_list [] = []
restriction_list (l ∷ ls) = cond (source_kind l) (l ∷ restriction_list ls) (restriction_list ls)

unfoldable pub restriction_bytes : Limits → List ℕ → Answer (List ℕ)
restriction_bytes F k = and_then (parsed_set F F.literals k) (λ ls. Ok (encoded_set (restriction_list ls)))

unfoldable pub restricted : Limits → List ℕ → List ℕ → Outcome
restricted F k out = delivered (restriction_bytes F k) out
