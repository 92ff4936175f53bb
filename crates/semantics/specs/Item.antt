-- What a file holds, item by item (02, Ask 2), and the program that it means.
-- In order: items; the rules, overrides and oppositions among them; the program that is meant.
-- Not here: what the sheets make (`Expansion`), limits (`Form`), bytes (`record`).
-- Assumes nothing.
use Rattle.std.specs.Prelude.{List, [], ◌∷◌, ◌++◌}
use Rattle.semantics.specs.Rule.{Rule, Program}
use Rattle.semantics.specs.Expansion.{Override, Opposition, appended}

-- a rule as written, or a record of a preference sheet
pub data Item : Type 0 where
  rule : Rule → Item
  override : Override → Item
  opposition : Opposition → Item

-- the written rules, in order
unfoldable pub rules : List Item → Program
rules [] = []
rules (rule r ∷ is) = r ∷ rules is
rules (override o ∷ is) = rules is
rules (opposition x ∷ is) = rules is

unfoldable pub overrides : List Item → List Override
overrides [] = []
overrides (rule r ∷ is) = overrides is
overrides (override o ∷ is) = o ∷ overrides is
overrides (opposition x ∷ is) = overrides is

unfoldable pub oppositions : List Item → List Opposition
oppositions [] = []
oppositions (rule r ∷ is) = oppositions is
oppositions (override o ∷ is) = oppositions is
oppositions (opposition x ∷ is) = x ∷ oppositions is

-- the rules that the sheets among the items append
unfoldable pub appended_by : List Item → Program
appended_by is = appended (rules is) (overrides is) (oppositions is)

-- the program that is meant: the written rules, which keep their numbers, and behind them those that are appended
unfoldable pub expanded : List Item → Program
expanded is = rules is ++ appended_by is
