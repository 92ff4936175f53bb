-- Ground disjunctive programs over numbers, and their answer sets: what a solver that reads aspif computes with. There is no
-- explicit negation here, and so no clash.
-- In order: rules; sets of numbers; the reduct; models; answer sets.
-- Not here: which number a literal has (`Numbering`), the text (`aspif_text`).
-- Assumes nothing.
use Rattle.std.specs.Prelude.{ℕ, Bool, cond, not, ◌||◌, List, [], ◌∷◌, T}
use Rattle.semantics.specs.Set.{some_of, each_of, ProperSubset}

-- some number of the head, if each of the positive body and none under naf
pub record GroundRule : Type 0 where
  pub head : List ℕ
  pub positive : List ℕ
  pub naf : List ℕ

abbrev pub GroundProgram : Type 0
GroundProgram = List GroundRule

-- a set of numbers, finite or not
abbrev pub NumberSet : Type 0
NumberSet = ℕ → Bool

-- a rule of a reduct: nothing under naf
pub record Definite : Type 0 where
  pub head : List ℕ
  pub positive : List ℕ

-- the reduct by x: gone is a rule with a number of x under naf; the others lose what is under naf
unfoldable pub reduct : GroundProgram → NumberSet → List Definite
reduct [] x = []
reduct (r ∷ g) x =
    cond (some_of x r.naf) (reduct g x) (record { head = r.head; positive = r.positive } ∷ reduct g x)

-- a rule holds in y: some number of its positive body is missing, or some number of its head present
unfoldable pub holds_in : Definite → NumberSet → Bool
holds_in d y = not (each_of y d.positive) || some_of y d.head

-- a model: each rule holds
unfoldable pub is_model : List Definite → NumberSet → Bool
is_model ds y = each_of (λ d. holds_in d y) ds

-- a model of its own reduct, where no proper subset of it is a model of that same reduct
pub record GroundAnswerSet (g : GroundProgram) (x : NumberSet) : Type 0 where
  pub model : T (is_model (reduct g x) x)
  pub minimal : (y : NumberSet) → ProperSubset y x → T (is_model (reduct g x) y) → ⊥
