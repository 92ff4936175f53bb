-- The extension as bytes (01, "Extend"): as quotient, and an A: record.
-- In order: the extension as a list; as bytes. Not here: the marks (`extend_marks`).
-- Assumes nothing.
use Rattle.std.specs.Prelude.{ℕ, List, ◌++◌, Ok}
use Rattle.literal.specs.declared.Limits.{Limits}
use Rattle.literal.specs.declared.Literal.{Literal}
use Rattle.literal.specs.Order.{sorted}
use Rattle.semantics.specs.Set.{set_of}
use Rattle.semantics.specs.Rule.{Program}
use Rattle.record.specs.Result.{Answer, Outcome, delivered}
use Rattle.set.specs.Layout.{encoded_set}
use Rattle.inputs.specs.Inputs.{with_inputs}
use Rattle.extend_marks.specs.Marks.{marks_from}

-- the extension of an ascending list of source literals, ascending: marks come behind all source kinds
unfoldable pub extension_list : Program → List Literal → List Literal
extension_list p ls = ls ++ sorted (marks_from 1 p (set_of ls))

unfoldable pub extension_bytes : Limits → List ℕ → List ℕ → Answer (List ℕ)
extension_bytes F s k = with_inputs F F.literals s k (λ p ls. Ok (encoded_set (extension_list p ls)))

unfoldable pub extended : Limits → List ℕ → List ℕ → List ℕ → Outcome
extended F s k out = delivered (extension_bytes F s k) out
