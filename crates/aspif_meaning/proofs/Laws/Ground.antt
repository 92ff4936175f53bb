-- Laws of ground programs: a model of a reduct rule by rule; minimality in the handier form.
-- Assumes nothing.
use mathlib.Core.Path.{◌≡◌, refl, ap, ◌∙◌}
use mathlib.Core.Bool.{Bool, true, false, cond, not, ◌&&◌, ◌||◌}
use mathlib.Core.List.{[], ◌∷◌}
use lib.Dec.{T}
use Rattle.semantics.specs.Set.{some_of, each_of, Subset}
use Rattle.semantics.proofs.Laws.Set.{minimal-contains, contains-minimal}
use Rattle.aspif_meaning.specs.Ground.{GroundRule, GroundProgram, NumberSet, Definite, reduct, holds_in, is_model, GroundAnswerSet}

-- a rule's part in a model y of the reduct by x
abbrev pub kept_in : NumberSet → NumberSet → GroundRule → Bool
kept_in x y r = some_of x r.naf || (not (each_of y r.positive) || some_of y r.head)

-- a model of a reduct, rule by rule
pub reduct-model : (g : GroundProgram) (x y : NumberSet) → is_model (reduct g x) y ≡ each_of (kept_in x y) g
unfolding reduct is_model holds_in
reduct-model [] x y = refl
reduct-model (r ∷ g) x y = go (some_of x r.naf) ∙ ap (λ (b : Bool). kept_in x y r && b) (reduct-model g x y)
  where
    here : Definite
    here = record { head = r.head; positive = r.positive }

    go : (b : Bool) → is_model (cond b (reduct g x) (here ∷ reduct g x)) y
        ≡ ((b || (not (each_of y r.positive) || some_of y r.head)) && is_model (reduct g x) y)
    go true = refl
    go false = refl

-- an answer set is a model of its reduct that every smaller model contains
pub ground-contains : {g : GroundProgram} {x : NumberSet} → GroundAnswerSet g x → (y : NumberSet) → Subset y x → T (is_model (reduct g x) y) → Subset x y
ground-contains {g} {x} a = minimal-contains x (λ y. T (is_model (reduct g x) y)) a.minimal

pub ground-intro : (g : GroundProgram) (x : NumberSet) → T (is_model (reduct g x) x)
    → ((y : NumberSet) → Subset y x → T (is_model (reduct g x) y) → Subset x y) → GroundAnswerSet g x
ground-intro g x m f = record { model = m; minimal = contains-minimal x (λ y. T (is_model (reduct g x) y)) f }
