-- The quotient of a program by a set, and answer sets (01, "Meaning"; 000, Definitions 13 and 14).
-- "Quotient" is 000's and 01's word for what the field calls the reduct. Both forms have this meaning.
-- In order: a rule's remainder; the quotient; a rule holds; a remainder holds; a model; an interpretation; an answer set.
-- Not here: bytes, limits, which literals a form takes.
-- Assumes nothing.
use Rattle.std.specs.Prelude.{Bool, true, cond, not, ◌&&◌, ◌||◌, List, [], ◌∷◌, T}
use Rattle.std.proofs.Math.Option.{Option, none, some}
use Rattle.literal.specs.declared.Tag.{Tag}
use Rattle.literal.specs.declared.Atom.{Atom}
use Rattle.literal.specs.declared.SignedAtom.{SignedAtom}
use Rattle.literal.specs.declared.SignedAtom.TheVariants.{Positive, Negative}
use Rattle.literal.specs.declared.Literal.{Literal}
use Rattle.literal.specs.declared.Literal.TheVariants.{Signed, Defeated}
use Rattle.semantics.specs.Set.{LiteralSet, some_of, each_of, ProperSubset}
use Rattle.semantics.specs.Rule.{Rule, strict, defeasible, Program, Remainder}

-- the options of a rule with tag t that are left: those whose defeat mark is not in s
-- (001 prints "true" in step (ii); 01 decides: defeated)
unfoldable pub undefeated : Tag → List SignedAtom → LiteralSet → List Literal
undefeated t [] s = []
undefeated t (a ∷ h) s = cond (s (Defeated t a)) (undefeated t h s) (Signed a ∷ undefeated t h s)

-- a defeasible rule without options is removed
unfoldable pub unless_empty : List Literal → List Literal → Option Remainder
unless_empty [] b = none
unless_empty (l ∷ h) b = some (record { head = l ∷ h; positive = b })

-- what s leaves of a rule, if anything: gone is a rule with a naf literal in s, and a defeasible rule whose options
-- are all defeated in s
unfoldable pub remainder : Rule → LiteralSet → Option Remainder
remainder (strict h b c) s = cond (some_of s c) none (some (record { head = h; positive = b }))
remainder (defeasible t h b c) s = cond (some_of s c) none (unless_empty (undefeated t h s) b)

unfoldable pub with_remainder : Option Remainder → List Remainder → List Remainder
with_remainder none qs = qs
with_remainder (some q) qs = q ∷ qs

-- the quotient of a program by s, in rule order
unfoldable pub quotient : Program → LiteralSet → List Remainder
quotient [] s = []
quotient (r ∷ p) s = with_remainder (remainder r s) (quotient p s)

-- a rule holds in u: some positive body literal is missing, or some head literal present
unfoldable pub holds : Remainder → LiteralSet → Bool
holds q u = not (each_of u q.positive) || some_of u q.head

-- what is left of a rule holds in u, if anything is left
unfoldable pub satisfied : Option Remainder → LiteralSet → Bool
satisfied none u = true
satisfied (some q) u = holds q u

-- a model of a quotient: each of its rules holds
unfoldable pub models : List Remainder → LiteralSet → Bool
models [] u = true
models (q ∷ qs) u = holds q u && models qs u

-- no atom is in s together with its explicit negation
unfoldable pub Interpretation : LiteralSet → Type 0
Interpretation s = (a : Atom) → T (s (Signed (Positive a))) → T (s (Signed (Negative a))) → ⊥

-- an interpretation that is a model of its own quotient, where no proper subset of it is a model of that same quotient
pub record AnswerSet (p : Program) (s : LiteralSet) : Type 0 where
  pub consistent : Interpretation s
  pub model : T (models (quotient p s) s)
  pub minimal : (u : LiteralSet) → ProperSubset u s → T (models (quotient p s) u) → ⊥
