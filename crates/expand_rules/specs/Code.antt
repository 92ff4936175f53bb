-- The rules that preference sheets append, as bytes, and tables that have a place for each number in an array.
-- Assumes nothing.
use Rattle.std.specs.Prelude.{ℕ, ◌<◌, List, map, get_or}
use Rattle.semantics.specs.Expansion.{Defeat, defeat_rule}
use Rattle.record.specs.Layout.{encoded_rules}

-- the records of what is made, one behind the other
unfoldable pub defeat_bytes : List Defeat → List ℕ
defeat_bytes ds = encoded_rules (map defeat_rule ds)

-- the first n numbers of an array are places of a table with b of them
abbrev pub Below : List ℕ → ℕ → ℕ → Type 0
Below xs n b = (i : ℕ) → i < n → get_or xs i 0 < b
