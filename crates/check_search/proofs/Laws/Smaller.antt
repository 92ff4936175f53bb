-- The masks between nothing and a set that lack a position of it are its parts that are not all of it.
-- Assumes nothing.
use Rattle.std.specs.Prelude.{ℕ, List}
use mathlib.Core.Path.{refl, subst}
use Rattle.mask.specs.Code.{Within}
use Rattle.mask.proofs.Laws.Part.{within-refl, within-antisym}
use Rattle.check_force.specs.declared.Clause.{Clause}
use Rattle.check_force.specs.Code.{Model, Smaller}
use Rattle.check_search.specs.Code.{Never, Least, Candidate}

module _ (set : ℕ) (cs : List Clause) where
  smaller-candidate : (x : ℕ) → Smaller set cs x → Candidate (Model set cs) 0 set x
  smaller-candidate x s =
      record {
        between = record { above = refl; below = s.within };
        has = record { proper = λ w a. s.proper (within-antisym x set s.within w); each = s.each };
      }

  candidate-smaller : (x : ℕ) → Candidate (Model set cs) 0 set x → Smaller set cs x
  candidate-smaller x d =
      record {
        within = d.between.below;
        proper = λ e. d.has.proper (subst (λ (z : ℕ). Within z x) e (within-refl x)) refl;
        each = d.has.each;
      }

  pub never-smaller : Never (Candidate (Model set cs) 0 set) → Never (Smaller set cs)
  never-smaller n x s = n x (smaller-candidate x s)

  pub least-smaller : {m : ℕ} → Least (Candidate (Model set cs) 0 set) m → Least (Smaller set cs) m
  least-smaller {m} v = record { passes = candidate-smaller m v.passes; least = λ x s. v.least x (smaller-candidate x s) }
