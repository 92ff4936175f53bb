-- 000's Example 1, with its defeat rules made by preference sheets (02, Ask 2).
-- In order: its two defeasible rules; the sheets: tag 1 overrides tag 2; 1 and 4, 1 and 5, 2 and 5 oppose; M3's three strict rules.
-- Assumes nothing.
use Rattle.std.specs.Prelude.{ℕ, List, [], ◌∷◌}
use Rattle.literal.specs.declared.Tag.{Tag}
use Rattle.literal.specs.declared.SignedAtom.{SignedAtom}
use Rattle.literal.specs.declared.SignedAtom.TheVariants.{Positive}
use Rattle.literal.specs.declared.Literal.TheVariants.{Signed, Defeated}
use Rattle.semantics.specs.Rule.{Rule, strict, defeasible, Program}
use Rattle.semantics.specs.Item.{Item, override, opposition}

-- an atom and a tag by their numbers
abbrev atom : ℕ → SignedAtom
atom n = Positive (record { 0 = n })

abbrev tag : ℕ → Tag
tag n = record { 0 = n }

-- tag 1: 1 or 2 or 3; tag 2: 4 or 5
unfoldable pub example_options : Program
example_options = defeasible (tag 1) (atom 1 ∷ atom 2 ∷ atom 3 ∷ []) [] [] ∷ defeasible (tag 2) (atom 4 ∷ atom 5 ∷ []) [] [] ∷ []

-- tag 1 overrides tag 2; 1 and 4 oppose, 1 and 5, 2 and 5
abbrev oppose : ℕ → ℕ → Item
oppose a b = opposition (record { one = atom a; other = atom b })

unfoldable pub example_sheets : List Item
example_sheets = override (record { upper = tag 1; lower = tag 2 }) ∷ oppose 1 4 ∷ oppose 1 5 ∷ oppose 2 5 ∷ []

-- defeated (2, 4) if 1; defeated (2, 5) if 1; defeated (2, 5) if 2
abbrev defeats : ℕ → ℕ → ℕ → Rule
defeats t b a = strict (Defeated (tag t) (atom b) ∷ []) (Signed (atom a) ∷ []) []

unfoldable pub example_defeats : Program
example_defeats = defeats 2 4 1 ∷ defeats 2 5 1 ∷ defeats 2 5 2 ∷ []
