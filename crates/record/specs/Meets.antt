-- What an operation that writes promises of its answer and of the lent buffer, on refusal too.
-- Assumes nothing.
use Rattle.std.specs.Prelude.{ℕ, ◌≡◌, List}
use Rattle.record.specs.Result.{Outcome, Answer}

-- the answer r and the buffer, as it is at the end, are those of the outcome
pub record Meets (o : Outcome) (r : Answer ℕ) (out : List ℕ) : Type 0 where
  pub answer : r ≡ o.answer
  pub buffer : out ≡ o.buffer
