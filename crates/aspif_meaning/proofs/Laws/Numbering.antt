-- Laws of the numbering: it is one to one on the literals that occur, whose numbers are at most as many.
-- In order: counts; the literals of a program; numbers.
-- Assumes nothing.
use Prim.Native.Nat.{ℕ, ◌+◌, ◌≤◌, ◌<◌}
use native.Mathlib.Omega.{arith}
use mathlib.Core.Path.{◌≡◌, sym, subst, fun_ext}
use mathlib.Core.Bool.{Bool, true, false, cond}
use mathlib.Core.Logic.{◌⊎◌, inl, inr}
use mathlib.Core.List.{List, [], ◌∷◌, Memᴰ}
use lib.Dec.{T, ltb, ltb→lt, lt→ltb, nltb→le}
use lib.ListN.{length}
use Rattle.literal.specs.declared.Literal.{Literal}
use Rattle.literal.specs.Order.{key, before}
use Rattle.literal.proofs.Laws.Literal.{Fits}
use Rattle.literal.proofs.Laws.Order.{key-injective}
use Rattle.semantics.specs.Set.{set_of}
use Rattle.semantics.specs.Rule.{Program}
use Rattle.semantics.proofs.Laws.Tests.{Each, each-mem, decide, refuted}
use Rattle.semantics.proofs.Laws.Set.{mem-set-of}
use Rattle.keys.proofs.Laws.Literals.{length-sorted, in-sorted}
use Rattle.aspif_meaning.specs.Numbering.{occurring, literals, count_of, number_of}

module _ {A : Type 0} where
  -- no more elements pass than there are
  pub count_most : (f : A → Bool) (xs : List A) → count_of f xs ≤ length xs
  count_most f [] = omega arith
  count_most f (x ∷ xs) = go (f x) (count_most f xs)
    where
      go : (b : Bool) → count_of f xs ≤ length xs → cond b 1 0 + count_of f xs ≤ length (x ∷ xs)
      go true h = omega arith
      go false h = omega arith

  module _ (f g : A → Bool) (more : (x : A) → T (f x) → T (g x)) where
    one_more : (x : A) (m n : ℕ) → m ≤ n → cond (f x) 1 0 + m ≤ cond (g x) 1 0 + n
    one_more x m n h = go (f x) (g x) (more x)
      where
        go : (a b : Bool) → (T a → T b) → cond a 1 0 + m ≤ cond b 1 0 + n
        go true true k = omega arith
        go true false k = absurd (k tt)
        go false true k = omega arith
        go false false k = omega arith

    -- where more passes, there are as many or more
    pub count-grows : (xs : List A) → count_of f xs ≤ count_of g xs
    count-grows [] = omega arith
    count-grows (x ∷ xs) = one_more x (count_of f xs) (count_of g xs) (count-grows xs)

    -- and more where an element passes that did not
    pub count-more : {x : A} {xs : List A} → Memᴰ x xs → (T (f x) → ⊥) → T (g x) → count_of f xs < count_of g xs
    count-more {x} (Memᴰ.head {x = y} {xs} e) n t =
        go (f y) (g y) (λ k. n (subst (λ (z : A). T (f z)) (sym e) k)) (subst (λ (z : A). T (g z)) e t) (count-grows xs)
      where
        go : (a b : Bool) → (T a → ⊥) → T b → count_of f xs ≤ count_of g xs → cond a 1 0 + count_of f xs < cond b 1 0 + count_of g xs
        go true b n t h = absurd (n tt)
        go false true n t h = omega arith
        go false false n t h = absurd t
    count-more (Memᴰ.tail {x = y} {xs} m) n t = omega (arith, one_more y (count_of f xs + 1) (count_of g xs) (omega (arith, count-more m n t)))

-- the literals of a program are those that occur
pub literals-same : (p : Program) → Each Fits (occurring p) → set_of (literals p) ≡ set_of (occurring p)
unfolding literals
literals-same p h = fun_ext (λ l. in-sorted l (occurring p) h)

-- a literal before another has a lower number
number-less : (p : Program) (l m : Literal) → T (set_of (literals p) l) → key l < key m → number_of p l < number_of p m
unfolding number_of before
number-less p l m t h =
    omega (
      arith,
      count-more (λ k. before k l) (λ k. before k m) (λ k b. lt→ltb (key k) (key m) (omega (arith, ltb→lt (key k) (key l) b)))
          (mem-set-of l (literals p) t) (λ b. omega (arith, ltb→lt (key l) (key l) b)) (lt→ltb (key l) (key m) h),
    )

-- different literals have different numbers
pub number-one : (p : Program) → Each Fits (occurring p) → (l m : Literal) → T (set_of (occurring p) l) → T (set_of (occurring p) m)
    → number_of p l ≡ number_of p m → l ≡ m
number-one p h l m s t e = go (decide (ltb (key l) (key m))) (decide (ltb (key m) (key l)))
  where
    listed : (k : Literal) → T (set_of (occurring p) k) → T (set_of (literals p) k)
    listed k o = subst (λ (u : Literal → Bool). T (u k)) (sym (literals-same p h)) o

    fits : (k : Literal) → T (set_of (occurring p) k) → Fits k
    fits k o = each-mem Fits h (mem-set-of k (occurring p) o)

    go : T (ltb (key l) (key m)) ⊎ (T (ltb (key l) (key m)) → ⊥) → T (ltb (key m) (key l)) ⊎ (T (ltb (key m) (key l)) → ⊥) → l ≡ m
    go (inl a) b = absurd (omega (arith, number-less p l m (listed l s) (ltb→lt (key l) (key m) a)))
    go (inr n) (inl a) = absurd (omega (arith, number-less p m l (listed m t) (ltb→lt (key m) (key l) a)))
    go (inr n) (inr k) = key-injective l m (fits l s) (fits m t) (omega (arith, below l m n, below m l k))
      where
        below : (a b : Literal) → (T (ltb (key a) (key b)) → ⊥) → key b ≤ key a
        below a b f = nltb→le (key a) (key b) (refuted (ltb (key a) (key b)) f)

-- a number is at most one more than the literals that occur
pub number-most : (p : Program) (l : Literal) → number_of p l ≤ length (occurring p) + 1
unfolding number_of literals
number-most p l = omega (arith, count_most (λ m. before m l) (literals p), length-sorted (occurring p))
