-- What an operation comes to: a value, or a refusal; and what it leaves in a lent buffer.
-- In order: answers; one after another; a chain of tests; the answer and the buffer of an operation that writes.
-- Assumes nothing.
use Rattle.std.specs.Prelude.{ℕ, Bool, true, false, List, ltb, length, Result, Ok, Err}
use Rattle.buffer.specs.Write.{write}
use Rattle.record.specs.declared.Reason.TheVariants.{OutputShort}
use Rattle.record.specs.declared.Refusal.{Refusal}
use Rattle.record.specs.Refusal.{refusal}

-- a value, or why and where it is refused
abbrev pub Answer : Type 0 → Type 0
Answer A = Result A Refusal

-- what is accepted goes on; a refusal ends it
unfoldable pub and_then : {A B : Type 0} → Answer A → (A → Answer B) → Answer B
and_then (Ok a) f = f a
and_then (Err x) f = Err x

-- a test of a chain: where it passes, the refusal ends it
unfoldable pub refuse_if : {A : Type 0} → Bool → Refusal → Answer A → Answer A
refuse_if true x r = Err x
refuse_if false x r = r

-- an operation that writes a result: its answer, and what the lent buffer holds then
pub record Outcome : Type 0 where
  pub answer : Answer ℕ
  pub buffer : List ℕ

-- a result is written to the buffer's start, and the bytes behind it are untouched; a buffer shorter than the result
-- is 9 at place 0; a refusal leaves the buffer as it came
unfoldable pub delivered : Answer (List ℕ) → List ℕ → Outcome
delivered (Err x) out = record { answer = Err x; buffer = out }
delivered (Ok bs) out =
    elim (ltb (length out) (length bs)) [
      | true ↦ record { answer = Err (refusal OutputShort 0); buffer = out }
      | false ↦ record { answer = Ok (length bs); buffer = write out 0 bs }
    ]
