-- The ground program over numbers that a plain program becomes, and the names of its numbers (02, Ask 1).
-- In order: plain programs; a rule in numbers; the constraints; the program; the names.
-- A numbering is any function here; the one of Ask 1 is `number_of`.
-- Assumes nothing.
use Rattle.std.specs.Prelude.{ℕ, Bool, true, false, List, [], ◌∷◌, ◌++◌, map}
use Rattle.literal.specs.declared.SignedAtom.{SignedAtom}
use Rattle.literal.specs.declared.SignedAtom.TheVariants.{Positive, Negative}
use Rattle.literal.specs.declared.Literal.{Literal}
use Rattle.literal.specs.declared.Literal.TheVariants.{Signed, Defeated, Derived, RuleDefeated}
use Rattle.semantics.specs.Set.{LiteralSet, set_of}
use Rattle.semantics.specs.Rule.{Rule, strict, defeasible, Program, head, positive, naf}
use Rattle.aspif_meaning.specs.Ground.{GroundRule, GroundProgram}
use Rattle.aspif_meaning.specs.Numbering.{literals, number_of}

-- a plain program has strict rules alone
unfoldable pub is_strict : Rule → Bool
is_strict (strict h b c) = true
is_strict (defeasible t h b c) = false

-- a rule with numbers for its literals, each as often as it stands there
unfoldable pub numbered : (Literal → ℕ) → Rule → GroundRule
numbered ν r = record { head = map ν (head r); positive = map ν (positive r); naf = map ν (naf r) }

-- never both of two numbers
unfoldable pub never_both : ℕ → ℕ → GroundRule
never_both n m = record { head = []; positive = n ∷ m ∷ []; naf = [] }

-- an atom and its negation, where the atom is this literal and both are in s: never both. A mark has no opposite
unfoldable pub constraints_of : (Literal → ℕ) → LiteralSet → Literal → GroundProgram
constraints_of ν s (Signed (Positive a)) =
    elim (s (Signed (Negative a))) [
      | true ↦ never_both (ν (Signed (Positive a))) (ν (Signed (Negative a))) ∷ []
      | false ↦ []
    ]
constraints_of ν s (Signed (Negative a)) = []
constraints_of ν s (Defeated t a) = []
constraints_of ν s (Derived t a) = []
constraints_of ν s (RuleDefeated n) = []

-- a constraint for each atom that these literals have both ways, in their order
unfoldable pub constraints_from : (Literal → ℕ) → LiteralSet → List Literal → GroundProgram
constraints_from ν s [] = []
constraints_from ν s (l ∷ ls) = constraints_of ν s l ++ constraints_from ν s ls

unfoldable pub constraints : (Literal → ℕ) → List Literal → GroundProgram
constraints ν ls = constraints_from ν (set_of ls) ls

-- the rules of p in numbers, then the constraints of the literals ls
unfoldable pub ground_with : (Literal → ℕ) → List Literal → Program → GroundProgram
ground_with ν ls p = map (numbered ν) p ++ constraints ν ls

unfoldable pub ground : Program → GroundProgram
ground p = ground_with (number_of p) (literals p) p

-- an atom or its negation that a number stands for
pub record Name : Type 0 where
  pub atom : SignedAtom
  pub number : ℕ

unfoldable pub names_of : (Literal → ℕ) → Literal → List Name
names_of ν (Signed a) = record { atom = a; number = ν (Signed a) } ∷ []
names_of ν (Defeated t a) = []
names_of ν (Derived t a) = []
names_of ν (RuleDefeated n) = []

-- the names of these literals, in their order: marks have none
unfoldable pub names_with : (Literal → ℕ) → List Literal → List Name
names_with ν [] = []
names_with ν (l ∷ ls) = names_of ν l ++ names_with ν ls

unfoldable pub names : Program → List Name
names p = names_with (number_of p) (literals p)
