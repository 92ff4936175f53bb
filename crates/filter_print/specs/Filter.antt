-- The filter program (01, "The filter program"): what it writes to standard output for what it reads.
-- In order: its buffers; what it writes of an outcome; the filter; what its function promises.
-- Assumes nothing.
use Rattle.std.specs.Prelude.{ℕ, ◌+◌, ◌≤◌, ◌≡◌, List, length, take, replicate, Ok, Err}
use Rattle.buffer.specs.Write.{write}
use Rattle.literal.specs.Limits.{source}
use Rattle.record.specs.Refusal.{encoded_refusal}
use Rattle.record.specs.Result.{Outcome}
use Rattle.translate.specs.Translate.{translated}

-- one byte above the source limit, so that excess shows as 1; and the bytes that a translation may have
unfoldable pub input_size : ℕ
input_size = source.length + 1

abbrev pub output_size : ℕ
output_size = 65536

-- the result's bytes, or an R: record
unfoldable pub printed : Outcome → List ℕ
printed o =
    elim o.answer [
      | Ok n ↦ take n o.buffer
      | Err x ↦ encoded_refusal x
    ]

-- standard output for standard input
unfoldable pub filtered : List ℕ → List ℕ
filtered input = printed (translated source (take input_size input) (replicate output_size 0))

-- bs is written of a buffer that was out and is end: its first r bytes, over the start of what it was; the bytes behind
-- are untouched
pub record Prints (bs out : List ℕ) (r : ℕ) (end : List ℕ) : Type 0 where
  pub within : r ≤ length end
  pub bytes : take r end ≡ bs
  pub buffer : end ≡ write out 0 bs
