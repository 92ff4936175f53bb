-- The positions of some literals in a list without repeats: all of them are picked exactly if the mask has their positions, and
-- one of them exactly if it meets these.
-- Assumes nothing.
use Prim.Native.Nat.{ℕ}
use mathlib.Core.Path.{refl}
use mathlib.Core.List.{List, [], ◌∷◌}
use mathlib.Core.Logic.{⊎_elim}
use lib.Dec.{T}
use Rattle.literal.specs.declared.Literal.{Literal}
use Rattle.semantics.specs.Set.{some_of, each_of, set_of}
use Rattle.semantics.proofs.Laws.Tests.{both, first, second, left, right, either}
use Rattle.mask.specs.Code.{Within, Apart}
use Rattle.mask.proofs.Laws.Part.{within-trans, within-or-left, within-or-right, or-within, within-apart, or_apart}
use Rattle.check_force.specs.Code.{mask_of, masks_of}
use Rattle.check_force.proofs.Laws.Build.{distinct, picked}
use Rattle.check_search.proofs.Laws.Position.{present-within, present-meets, within-present, absent-apart}

module _ (x : ℕ) (ls : List Literal) (d : T (distinct ls)) where
  -- all of some literals are picked
  pub all-within : (qs : List Literal) → T (each_of (set_of (picked x ls)) qs) → Within (masks_of ls qs) x
  unfolding masks_of
  all-within [] t = refl
  all-within (q ∷ qs) t =
      or-within (mask_of ls q) (masks_of ls qs) x (present-within x ls d q (first (set_of (picked x ls) q) (each_of (set_of (picked x ls)) qs) t))
      (all-within qs (second (set_of (picked x ls) q) (each_of (set_of (picked x ls)) qs) t))

  pub within_all : (qs : List Literal) → T (each_of (set_of ls) qs) → Within (masks_of ls qs) x → T (each_of (set_of (picked x ls)) qs)
  unfolding masks_of
  within_all [] t w = tt
  within_all (q ∷ qs) t w =
      both (set_of (picked x ls) q) (each_of (set_of (picked x ls)) qs)
      (within-present x ls d q (first (set_of ls q) (each_of (set_of ls) qs) t)
      (within-trans (mask_of ls q) (masks_of ls (q ∷ qs)) x (within-or-left (mask_of ls q) (masks_of ls qs)) w))
      (within_all qs (second (set_of ls q) (each_of (set_of ls) qs) t)
      (within-trans (masks_of ls qs) (masks_of ls (q ∷ qs)) x (within-or-right (mask_of ls q) (masks_of ls qs)) w))

  -- one of some literals is picked
  pub any-meets : (qs : List Literal) → T (some_of (set_of (picked x ls)) qs) → Apart (masks_of ls qs) x → ⊥
  unfolding masks_of
  any-meets [] t a = t
  any-meets (q ∷ qs) t a =
      ⊎_elim (λ s. present-meets x ls d q s (within-apart (mask_of ls q) (masks_of ls (q ∷ qs)) x (within-or-left (mask_of ls q) (masks_of ls qs)) a))
      (λ s. any-meets qs s (within-apart (masks_of ls qs) (masks_of ls (q ∷ qs)) x (within-or-right (mask_of ls q) (masks_of ls qs)) a))
      (either (set_of (picked x ls) q) (some_of (set_of (picked x ls)) qs) t)

  pub none_apart : (qs : List Literal) → (T (some_of (set_of (picked x ls)) qs) → ⊥) → Apart (masks_of ls qs) x
  unfolding masks_of
  none_apart [] n = refl
  none_apart (q ∷ qs) n =
      or_apart (mask_of ls q) (masks_of ls qs) x (absent-apart x ls d q (λ t. n (left (set_of (picked x ls) q) (some_of (set_of (picked x ls)) qs) t)))
      (none_apart qs (λ t. n (right (set_of (picked x ls) q) (some_of (set_of (picked x ls)) qs) t)))
