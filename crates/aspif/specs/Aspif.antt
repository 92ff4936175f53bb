-- Exporting a plain program as an aspif text (02, Ask 1): read's refusals, then 9; the text.
-- Assumes nothing.
use Rattle.std.specs.Prelude.{ℕ, List, Ok}
use Rattle.literal.specs.declared.Limits.{Limits}
use Rattle.record.specs.Result.{Answer, and_then, Outcome, delivered}
use Rattle.record.specs.Reading.{parsed}
use Rattle.aspif_text.specs.Text.{aspif_text}

-- the text of the program that a slice holds in form F
unfoldable pub aspif_bytes : Limits → List ℕ → Answer (List ℕ)
aspif_bytes F s = and_then (parsed F s) (λ p. Ok (aspif_text p))

unfoldable pub exported : Limits → List ℕ → List ℕ → Outcome
exported F s out = delivered (aspif_bytes F s) out
