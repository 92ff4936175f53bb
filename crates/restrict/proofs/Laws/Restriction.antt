-- Laws of the restriction of a list of literals.
-- In order: lists one behind the other; a literal more; how many are kept; source literals, marks, and the one before the
-- other; a test on what is kept; the set of what is kept.
-- Assumes nothing.
use Prim.Native.Nat.{suc, ◌≤◌}
use native.Mathlib.Omega.{arith}
use mathlib.Core.Path.{◌≡◌, refl, sym, ◌∙◌, ap, ap₂, fun_ext}
use mathlib.Core.Bool.{Bool, true, false, cond, not, ◌&&◌, ◌||◌, and-false}
use mathlib.Core.List.{List, [], ◌∷◌, ◌++◌, append-nil}
use lib.Dec.{T}
use lib.ListN.{length}
use Rattle.literal.specs.declared.Literal.{Literal}
use Rattle.semantics.specs.Set.{some_of, each_of, same_literal, set_of}
use Rattle.semantics.specs.Extension.{source_kind, restriction}
use Rattle.semantics.proofs.Laws.Tests.{first, second, any-agree}
use Rattle.semantics.proofs.Laws.Set.{same-literal-eq}
use Rattle.restrict.specs.Restrict.{restriction_list}

-- what is kept of one list behind another
restriction-append : (ls ms : List Literal) → restriction_list (ls ++ ms) ≡ restriction_list ls ++ restriction_list ms
unfolding restriction_list
restriction-append [] ms = refl
restriction-append (l ∷ ls) ms = go (source_kind l) (restriction-append ls ms)
  where
    go : (b : Bool) → restriction_list (ls ++ ms) ≡ restriction_list ls ++ restriction_list ms
        → cond b (l ∷ restriction_list (ls ++ ms)) (restriction_list (ls ++ ms)) ≡ cond b (l ∷ restriction_list ls) (restriction_list ls) ++ restriction_list ms
    go true e = ap (λ (ks : List Literal). l ∷ ks) e
    go false e = e

-- one literal more, kept or not
module _ (l : Literal) (ls : List Literal) where
  pub restriction-kept : source_kind l ≡ true → restriction_list (l ∷ ls) ≡ l ∷ restriction_list ls
  unfolding restriction_list
  restriction-kept e = ap (λ (b : Bool). cond b (l ∷ restriction_list ls) (restriction_list ls)) e

  pub restriction-dropped : source_kind l ≡ false → restriction_list (l ∷ ls) ≡ restriction_list ls
  unfolding restriction_list
  restriction-dropped e = ap (λ (b : Bool). cond b (l ∷ restriction_list ls) (restriction_list ls)) e

-- no more literals are kept than the list has
pub length-restriction : (ls : List Literal) → length (restriction_list ls) ≤ length ls
unfolding restriction_list
length-restriction [] = omega arith
length-restriction (l ∷ ls) = go (source_kind l) (length-restriction ls)
  where
    go : (b : Bool) → length (restriction_list ls) ≤ length ls → length (cond b (l ∷ restriction_list ls) (restriction_list ls)) ≤ suc (length ls)
    go true h = omega arith
    go false h = omega arith

-- source literals are kept
restriction-source : (ls : List Literal) → T (each_of source_kind ls) → restriction_list ls ≡ ls
unfolding restriction_list
restriction-source [] t = refl
restriction-source (l ∷ ls) t =
    go (source_kind l) (first (source_kind l) (each_of source_kind ls) t) (restriction-source ls (second (source_kind l) (each_of source_kind ls) t))
  where
    go : (b : Bool) → T b → restriction_list ls ≡ ls → cond b (l ∷ restriction_list ls) (restriction_list ls) ≡ l ∷ ls
    go true u e = ap (λ (ks : List Literal). l ∷ ks) e
    go false u e = absurd u

-- and marks are not
restriction-marks : (ls : List Literal) → T (each_of (λ l. not (source_kind l)) ls) → restriction_list ls ≡ []
unfolding restriction_list
restriction-marks [] t = refl
restriction-marks (l ∷ ls) t =
    go (source_kind l) (first (not (source_kind l)) (each_of (λ m. not (source_kind m)) ls) t)
    (restriction-marks ls (second (not (source_kind l)) (each_of (λ m. not (source_kind m)) ls) t))
  where
    go : (b : Bool) → T (not b) → restriction_list ls ≡ [] → cond b (l ∷ restriction_list ls) (restriction_list ls) ≡ []
    go true u e = absurd u
    go false u e = e

-- of source literals and marks behind them, the source literals
pub restriction-joined : (ls ms : List Literal) → T (each_of source_kind ls) → T (each_of (λ l. not (source_kind l)) ms) → restriction_list (ls ++ ms) ≡ ls
restriction-joined ls ms t u = restriction-append ls ms ∙ ap₂ ◌++◌ (restriction-source ls t) (restriction-marks ms u) ∙ append-nil ls

-- a test passes on a literal that is kept exactly if it passes on a source literal of the list
restriction-any : (f : Literal → Bool) (ls : List Literal) → some_of f (restriction_list ls) ≡ some_of (λ m. source_kind m && f m) ls
unfolding restriction_list
restriction-any f [] = refl
restriction-any f (l ∷ ls) = go (source_kind l) (restriction-any f ls)
  where
    go : (b : Bool) → some_of f (restriction_list ls) ≡ some_of (λ m. source_kind m && f m) ls
        → some_of f (cond b (l ∷ restriction_list ls) (restriction_list ls)) ≡ ((b && f l) || some_of (λ m. source_kind m && f m) ls)
    go true e = ap (λ (c : Bool). f l || c) e
    go false e = e

-- a condition that is the same for each literal
any-under : (b : Bool) (f : Literal → Bool) (ls : List Literal) → some_of (λ m. b && f m) ls ≡ (b && some_of f ls)
any-under true f ls = refl
any-under false f [] = refl
any-under false f (l ∷ ls) = any-under false f ls

-- the same literal has the same kind
same_kind : (l m : Literal) → (source_kind m && same_literal l m) ≡ (source_kind l && same_literal l m)
same_kind l m = go (same_literal l m) (same-literal-eq l m)
  where
    go : (b : Bool) → (T b → l ≡ m) → (source_kind m && b) ≡ (source_kind l && b)
    go true e = ap (λ (n : Literal). source_kind n && true) (sym (e tt))
    go false e = and-false (source_kind m) ∙ sym (and-false (source_kind l))

-- what is kept of a list is the restriction of its set
pub restriction-set : (ls : List Literal) → set_of (restriction_list ls) ≡ restriction (set_of ls)
unfolding restriction
restriction-set ls =
    fun_ext (λ l.
    restriction-any (same_literal l) ls
    ∙ any-agree ls (λ m mem. same_kind l m)
    ∙ any-under (source_kind l) (same_literal l) ls)
