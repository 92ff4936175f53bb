-- What the walk to a rule's record asks of the program, or of the file, and how it counts a file's rules.
-- Assumes nothing.
use Rattle.std.specs.Prelude.{ℕ, ◌≤◌, cond, List, eqb, length}
use Rattle.semantics.specs.Rule.{Program}
use Rattle.semantics.specs.Item.{Item, rules}
use Rattle.record.specs.Header.{override_letter, opposition_letter}

-- it has a rule of this number
pub record Numbered (n : ℕ) (p : Program) : Type 0 where
  pub one : 1 ≤ n
  pub most : n ≤ length p

-- the file has a rule of this number
abbrev pub NumberedIn : ℕ → List Item → Type 0
NumberedIn n is = Numbered n (rules is)

-- how many rules a record with this letter is: none where it is a sheet's
unfoldable pub rules_in : ℕ → ℕ
rules_in letter = cond (eqb letter override_letter) 0 (cond (eqb letter opposition_letter) 0 1)
