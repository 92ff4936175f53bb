-- What a search found, as a part of a list. Assumes nothing.
use Rattle.std.specs.Prelude.{ℕ, List, Option, Some, None}
use mathlib.Core.Option.{Option as Found, none, some}
use Rattle.literal.specs.declared.Literal.{Literal}
use Rattle.check_force.proofs.Laws.Build.{picked}

-- what a search over the positions of ls found
abbrev pub found_in : List Literal → Option ℕ → Found (List Literal)
found_in ls None = none
found_in ls (Some m) = some (picked m ls)
