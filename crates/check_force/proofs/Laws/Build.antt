-- How code builds the masks and clauses of a list's literals, and what a mask picks, one literal or one rule at a time.
-- In order: lists without repeats, and the part of a list that a mask picks; a literal before such a list; a literal's position;
-- clauses; what is picked.
-- Assumes nothing.
use Prim.Native.Nat.{ℕ, ◌^◌, ◌<◌}
use native.Mathlib.Omega.{arith}
use mathlib.Core.Path.{◌≡◌, refl}
use mathlib.Core.Bool.{Bool, true, false, cond, not, ◌&&◌}
use mathlib.Core.List.{List, [], ◌∷◌, Memᴰ}
use mathlib.Core.Logic.{◌⊎◌, inl, inr}
use lib.Dec.{T, ltb→lt}
use lib.ListN.{length}
use lib.Pow.{pow_pos}
use Rattle.literal.specs.declared.Literal.{Literal}
use Rattle.literal.specs.Order.{key, before}
use Rattle.semantics.specs.Set.{each_of, same_literal, set_of}
use Rattle.semantics.specs.Rule.{Remainder}
use Rattle.semantics.proofs.Laws.Tests.{both, left, right, either, refuted, is_true, is_false}
use Rattle.semantics.proofs.Laws.Set.{mem-set-of}
use Rattle.mask.specs.Code.{has}
use Rattle.check_force.specs.Code.{mask_of, masks_of, clauses_of}

-- no literal stands twice in the list
unfoldable pub distinct : List Literal → Bool
distinct [] = true
distinct (l ∷ ls) = not (set_of ls l) && distinct ls

-- the literals of a list whose positions are in x, in order
unfoldable pub picked : ℕ → List Literal → List Literal
picked x [] = []
picked x (l ∷ ls) = cond (has x (length ls)) (l ∷ picked x ls) (picked x ls)

-- a literal before each literal of a list without repeats is none of them
pub distinct-below : (l : Literal) (ls : List Literal) → ((m : Literal) → Memᴰ m ls → T (before l m)) → T (distinct ls) → T (distinct (l ∷ ls))
unfolding distinct before
distinct-below l ls h d =
    both (not (set_of ls l)) (distinct ls) (refuted (set_of ls l) (λ t. let s = ltb→lt (key l) (key l) (h l (mem-set-of l ls t)) in omega arith)) d

-- a literal of the list has a position, and another none
pub mask-some : (ls : List Literal) (l : Literal) → T (set_of ls l) → 0 < mask_of ls l
unfolding mask_of
mask-some [] l t = absurd t
mask-some (m ∷ ls) l t = go (same_literal l m) (either (same_literal l m) (set_of ls l) t) (mask-some ls l)
  where
    go : (a : Bool) → T a ⊎ T (set_of ls l) → (T (set_of ls l) → 0 < mask_of ls l) → 0 < cond a (2 ^ length ls) (mask_of ls l)
    go true s ih = pow_pos (length ls)
    go false (inl s) ih = absurd s
    go false (inr s) ih = ih s

pub mask-none : (ls : List Literal) (l : Literal) → (T (set_of ls l) → ⊥) → mask_of ls l ≡ 0
unfolding mask_of
mask-none [] l n = refl
mask-none (m ∷ ls) l n =
    go (same_literal l m) (λ s. n (left (same_literal l m) (set_of ls l) s)) (mask-none ls l (λ s. n (right (same_literal l m) (set_of ls l) s)))
  where
    go : (a : Bool) → (T a → ⊥) → mask_of ls l ≡ 0 → cond a (2 ^ length ls) (mask_of ls l) ≡ 0
    go true f e = absurd (f tt)
    go false f e = e

-- the clauses of one rule more
module _ (ls : List Literal) (q : Remainder) (qs : List Remainder) where
  pub clauses_kept : T (each_of (set_of ls) q.positive)
      → clauses_of ls (q ∷ qs) ≡ record { body = masks_of ls q.positive; head = masks_of ls q.head } ∷ clauses_of ls qs
  unfolding clauses_of
  clauses_kept t = rw (is_true (each_of (set_of ls) q.positive) t)

  pub clauses-left-out : (T (each_of (set_of ls) q.positive) → ⊥) → clauses_of ls (q ∷ qs) ≡ clauses_of ls qs
  unfolding clauses_of
  clauses-left-out n = rw (is_false (each_of (set_of ls) q.positive) n)

-- what a mask picks of a list with one literal more
module _ (x : ℕ) (l : Literal) (ls : List Literal) where
  pub picked-present : has x (length ls) ≡ true → picked x (l ∷ ls) ≡ l ∷ picked x ls
  unfolding picked
  picked-present e = rw e

  pub picked-absent : has x (length ls) ≡ false → picked x (l ∷ ls) ≡ picked x ls
  unfolding picked
  picked-absent e = rw e
