-- What the check promises of its answer and of the lent output, on refusal too.
-- Assumes nothing.
use Rattle.std.specs.Prelude.{ℕ, ◌≡◌, List}
use Rattle.check_set.specs.declared.Verdict.{Verdict}
use Rattle.record.specs.Result.{Answer}
use Rattle.check_set.specs.Check.{Checked}

-- the answer r and the output, as it is at the end, are those of the check
pub record MeetsCheck (o : Checked) (r : Answer Verdict) (out : List ℕ) : Type 0 where
  pub answer : r ≡ o.answer
  pub buffer : out ≡ o.buffer
