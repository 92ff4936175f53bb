-- How code reads a file and a set in one call, before an operation makes anything of them.
-- In order: what reading both answers; both, as read. Assumes nothing.
use Rattle.std.specs.Prelude.{ℕ, ◌≡◌, List, length, Ok, Err}
use Rattle.literal.specs.declared.Limits.{Limits}
use Rattle.literal.specs.declared.Literal.{Literal}
use Rattle.semantics.specs.Item.{Item}
use Rattle.record.specs.declared.Held.{Held}
use Rattle.record.specs.Result.{Answer}
use Rattle.record.specs.Reading.{items, held_of}
use Rattle.set.specs.Reading.{parsed_set}

-- the file's refusal, then the set's, then what both hold
unfoldable pub both_answer : Answer (List Item) → Answer (List Literal) → Answer (Held × ℕ)
both_answer (Err x) q = Err x
both_answer (Ok is) (Err x) = Err x
both_answer (Ok is) (Ok ls) = Ok (held_of is, length ls)

unfoldable pub both_read : Limits → ℕ → List ℕ → List ℕ → Answer (Held × ℕ)
both_read F most s k = both_answer (items F s) (parsed_set F most k)

-- s holds a file, in which h is held, and k a set of n literals
pub record Inputs (F : Limits) (most : ℕ) (s k : List ℕ) (h : Held) (n : ℕ) : Type 0 where
  pub file : List Item
  pub holds : items F s ≡ Ok file
  pub held : held_of file ≡ h
  pub literals : List Literal
  pub members : parsed_set F most k ≡ Ok literals
  pub counted : n ≡ length literals
