-- Translating a source (01, "Translate"): read's refusals, then 9; the translation's records.
-- Assumes nothing.
use Rattle.std.specs.Prelude.{ℕ, List, Ok}
use Rattle.literal.specs.declared.Limits.{Limits}
use Rattle.semantics.specs.Translation.{translation}
use Rattle.record.specs.Result.{Answer, and_then, Outcome, delivered}
use Rattle.record.specs.Layout.{encoded_program}
use Rattle.record.specs.Reading.{parsed}

-- the translation's bytes, of the program that a slice holds in form F
unfoldable pub translated_bytes : Limits → List ℕ → Answer (List ℕ)
translated_bytes F s = and_then (parsed F s) (λ p. Ok (encoded_program (translation p)))

unfoldable pub translated : Limits → List ℕ → List ℕ → Outcome
translated F s out = delivered (translated_bytes F s) out
