-- The check of a proposed set (01, "Check"), in either form: its answer, and what it leaves in the lent output.
-- In order: the program and the set that are checked; the check. Not here: the finding (`semantics`), its verdict and witness
-- (`Verdict`). Assumes nothing.
use Rattle.std.specs.Prelude.{ℕ, List, ltb, length, Ok, Err}
use Rattle.check_set.specs.declared.Verdict.{Verdict}
use Rattle.buffer.specs.Write.{write}
use Rattle.literal.specs.declared.Limits.{Limits}
use Rattle.literal.specs.declared.Literal.{Literal}
use Rattle.semantics.specs.Rule.{Program}
use Rattle.semantics.specs.Verdict.{Finding, finding}
use Rattle.record.specs.declared.Reason.TheVariants.{OutputShort}
use Rattle.record.specs.Refusal.{refusal}
use Rattle.record.specs.Result.{Answer, refuse_if}
use Rattle.inputs.specs.Inputs.{with_inputs}
use Rattle.check_set.specs.Verdict.{verdict_of, witness}

-- what a check finds of a program and a set, and in a slice and the set's slice: refusals as quotient's, but 12 above the sets that are
-- checked, and 9 exactly if the output slice is shorter than the set's record
abbrev pub found_of : Program → List Literal → List ℕ → List ℕ → Answer Finding
found_of p ls k out = refuse_if (ltb (length out) (length k)) (refusal OutputShort 0) (Ok (finding p ls))

unfoldable pub found : Limits → List ℕ → List ℕ → List ℕ → Answer Finding
found F s k out = with_inputs F F.checked s k (λ p ls. found_of p ls k out)

-- the answer of a check, and what the lent output holds then
pub record Checked : Type 0 where
  pub answer : Answer Verdict
  pub buffer : List ℕ

unfoldable pub checked_of : Answer Finding → List ℕ → Checked
checked_of (Ok f) out = record { answer = Ok (verdict_of f); buffer = write out 0 (witness f) }
checked_of (Err x) out = record { answer = Err x; buffer = out }

unfoldable pub checked : Limits → List ℕ → List ℕ → List ℕ → Checked
checked F s k out = checked_of (found F s k out) out
