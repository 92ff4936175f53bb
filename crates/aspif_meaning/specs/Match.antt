-- The one-to-one match of a plain program's answer sets and those of a ground program over numbers (02, Ask 1: "Answer sets of
-- the text and of the plain program must match one to one by these numbers"), as types. `proofs/Match.antt` proves them.
-- In order: the numbers of a set; the match.
-- Assumes nothing.
use Rattle.std.specs.Prelude.{ℕ, ◌≡◌, ◌&&◌, List, ◌↔◌, eqb}
use Rattle.literal.specs.declared.Literal.{Literal}
use Rattle.semantics.specs.Set.{LiteralSet, some_of, Subset, set_of}
use Rattle.semantics.specs.Rule.{Program}
use Rattle.semantics.specs.Meaning.{AnswerSet}
use Rattle.aspif_meaning.specs.Ground.{GroundProgram, NumberSet, GroundAnswerSet}
use Rattle.aspif_meaning.specs.Numbering.{occurring}

-- the numbers of those literals of ls that are in s
unfoldable pub numbers_with : (Literal → ℕ) → List Literal → LiteralSet → NumberSet
numbers_with ν ls s n = some_of (λ l. s l && eqb (ν l) n) ls

-- x is the numbers of exactly one answer set of p
pub record OneAnswerSet (p : Program) (ν : Literal → ℕ) (x : NumberSet) : Type 0 where
  pub set : LiteralSet
  pub answers : AnswerSet p set
  pub numbers : numbers_with ν (occurring p) set ≡ x
  pub only : (s : LiteralSet) → AnswerSet p s → numbers_with ν (occurring p) s ≡ x → s ≡ set

-- the answer sets of p and of g match one to one by the numbers ν
pub record NumberMatch (p : Program) (ν : Literal → ℕ) (g : GroundProgram) : Type 0 where
  -- an answer set of p holds literals that occur in p, and no other
  pub within : (s : LiteralSet) → AnswerSet p s → Subset s (set_of (occurring p))
  -- a set of those is an answer set of p exactly if its numbers are one of g
  pub matches : (s : LiteralSet) → Subset s (set_of (occurring p)) → AnswerSet p s ↔ GroundAnswerSet g (numbers_with ν (occurring p) s)
  -- each answer set of g is the numbers of exactly one answer set of p
  pub returns : (x : NumberSet) → GroundAnswerSet g x → OneAnswerSet p ν x
