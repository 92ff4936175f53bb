-- The header that code writes for a strict rule's record (01, "Records").
-- Assumes nothing.
use Rattle.std.specs.Prelude.{ℕ, List, [], ◌∷◌}
use Rattle.record.specs.Header.{strict_letter, colon}

-- S:, tag 0, and the three counts
unfoldable pub header : ℕ → ℕ → ℕ → List ℕ
header h b c = strict_letter ∷ colon ∷ 0 ∷ 0 ∷ h ∷ b ∷ c ∷ []
