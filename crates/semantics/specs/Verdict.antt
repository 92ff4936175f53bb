-- The check of a proposed set, given as a list in ascending order (01, "Check"), on programs.
-- In order: what a check finds; the first clash; the first broken rule; the first subset that passes a test; the first
-- smaller model; the finding. Not here: bytes, places, the lent output (`check_set`).
-- Assumes nothing.
use Rattle.std.specs.Prelude.{ℕ, ◌+◌, Bool, false, cond, not, ◌&&◌, List, [], ◌∷◌}
use Rattle.std.proofs.Math.Option.{Option, none, some}
use Rattle.literal.specs.declared.Literal.{Literal}
use Rattle.literal.specs.declared.Literal.TheVariants.{Signed, Defeated, Derived, RuleDefeated}
use Rattle.literal.specs.Literal.{opposite}
use Rattle.semantics.specs.Set.{LiteralSet, each_of, set_of}
use Rattle.semantics.specs.Rule.{Program, Remainder}
use Rattle.semantics.specs.Meaning.{remainder, quotient, satisfied, models}

-- what a check finds: the position of a literal, the number of a rule, a smaller model, or nothing against the set
pub data Finding : Type 0 where
  clash : ℕ → Finding
  broken : ℕ → Finding
  smaller : List Literal → Finding
  answer_set : Finding

-- the opposite of this literal is in s; marks have no opposite
unfoldable pub opposed : LiteralSet → Literal → Bool
opposed s (Signed a) = s (Signed (opposite a))
opposed s (Defeated t a) = false
opposed s (Derived t a) = false
opposed s (RuleDefeated n) = false

-- the position, in a list whose first literal has position k, of the first literal whose opposite is in s
unfoldable pub clash_from : ℕ → LiteralSet → List Literal → Option ℕ
clash_from k s [] = none
clash_from k s (l ∷ ls) = cond (opposed s l) (some k) (clash_from (k + 1) s ls)

-- the number, in a program whose first rule has number k, of the first rule whose remainder in the quotient by s
-- does not hold in s
unfoldable pub broken_from : ℕ → Program → LiteralSet → Option ℕ
broken_from k [] s = none
broken_from k (r ∷ p) s = cond (satisfied (remainder r s) s) (broken_from (k + 1) p s) (some k)

unfoldable pub or_else : Option (List Literal) → Option (List Literal) → Option (List Literal)
or_else none o = o
or_else (some ls) o = some ls

unfoldable pub with_literal : Literal → Option (List Literal) → Option (List Literal)
with_literal l none = none
with_literal l (some ls) = some (l ∷ ls)

-- of the subsets of a list that pass a test, the first when they are compared literal by literal, absent before present
unfoldable pub first_subset : List Literal → (List Literal → Bool) → Option (List Literal)
first_subset [] test = cond (test []) (some []) none
first_subset (l ∷ ls) test =
    or_else (first_subset ls test) (with_literal l (first_subset ls (λ s. test (l ∷ s))))

-- a proper subset of ls that is a model of a quotient
unfoldable pub smaller_model : List Remainder → List Literal → List Literal → Bool
smaller_model qs ls s = not (each_of (set_of s) ls) && models qs (set_of s)

-- the finding: clash, broken, smaller, tried in this order
unfoldable pub finding : Program → List Literal → Finding
finding p ls =
    elim (clash_from 1 (set_of ls) ls) [
      | some k ↦ clash k
      | none ↦
          elim (broken_from 1 p (set_of ls)) [
            | some n ↦ broken n
            | none ↦
                elim (first_subset ls (smaller_model (quotient p (set_of ls)) ls)) [
                  | some s ↦ smaller s
                  | none ↦ answer_set
                ]
          ]
    ]
