-- The finding of a check, from what each of its searches finds. Assumes nothing.
use Prim.Native.Nat.{ℕ}
use mathlib.Core.Path.{◌≡◌, refl}
use mathlib.Core.List.{List}
use mathlib.Core.Option.{none, some}
use Rattle.literal.specs.declared.Literal.{Literal}
use Rattle.semantics.specs.Set.{set_of}
use Rattle.semantics.specs.Rule.{Program}
use Rattle.semantics.specs.Meaning.{quotient}
use Rattle.semantics.specs.Verdict.{clash, broken, smaller, answer_set, clash_from, broken_from, first_subset, smaller_model, finding}
use Rattle.semantics.proofs.Laws.Verdict.{finding_of, found_as}

module _ (p : Program) (ls : List Literal) where
  -- a clash
  pub finds-clash : (k : ℕ) → clash_from 1 (set_of ls) ls ≡ some k → finding p ls ≡ clash k
  unfolding finding_of
  finds-clash k e = found_as p ls e refl refl

  module _ (e : clash_from 1 (set_of ls) ls ≡ none) where
    -- no clash, and a rule that does not hold
    pub finds-broken : (k : ℕ) → broken_from 1 p (set_of ls) ≡ some k → finding p ls ≡ broken k
    unfolding finding_of
    finds-broken k f = found_as p ls e f refl

    module _ (f : broken_from 1 p (set_of ls) ≡ none) where
      -- neither: the first smaller model decides
      pub finds-smaller : (s : List Literal) → first_subset ls (smaller_model (quotient p (set_of ls)) ls) ≡ some s → finding p ls ≡ smaller s
      unfolding finding_of
      finds-smaller s g = found_as p ls e f g

      pub finds-answer-set : first_subset ls (smaller_model (quotient p (set_of ls)) ls) ≡ none → finding p ls ≡ answer_set
      unfolding finding_of
      finds-answer-set g = found_as p ls e f g
