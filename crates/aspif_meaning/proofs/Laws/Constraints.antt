-- Laws of the constraints: they hold in a set of numbers exactly if no atom is there both ways.
-- Assumes nothing.
use Prim.Native.Nat.{ℕ}
use mathlib.Core.Path.{◌≡◌, refl, sym, subst}
use mathlib.Core.Bool.{Bool, true, false, not, ◌&&◌, ◌||◌}
use mathlib.Core.List.{List, [], ◌∷◌, Memᴰ}
use lib.Dec.{T}
use Rattle.literal.specs.declared.Atom.{Atom}
use Rattle.literal.specs.declared.SignedAtom.TheVariants.{Positive, Negative}
use Rattle.literal.specs.declared.Literal.{Literal}
use Rattle.literal.specs.declared.Literal.TheVariants.{Signed, Defeated, Derived, RuleDefeated}
use Rattle.semantics.specs.Set.{LiteralSet, each_of}
use Rattle.semantics.proofs.Laws.Tests.{both, first, second, along, all_append}
use Rattle.aspif_meaning.specs.Ground.{NumberSet}
use Rattle.aspif_meaning.specs.Program.{never_both, constraints_of, constraints_from}
use Rattle.aspif_meaning.proofs.Laws.Ground.{kept_in}

-- no atom that s has both ways, the positive one in ls, is in y both ways
abbrev pub Free : (Literal → ℕ) → LiteralSet → List Literal → NumberSet → Type 0
Free ν s ls y =
    (a : Atom) → Memᴰ (Signed (Positive a)) ls → T (s (Signed (Negative a))) → T (y (ν (Signed (Positive a)))) → T (y (ν (Signed (Negative a)))) → ⊥

-- two numbers are never both in y
pub kept-never : (x y : NumberSet) (n m : ℕ) → (T (y n) → T (y m) → ⊥) → T (kept_in x y (never_both n m))
unfolding never_both
kept-never x y n m f = go (y n) (y m) f
  where
    go : (a b : Bool) → (T a → T b → ⊥) → T (false || (not (a && (b && true)) || false))
    go true true f = f tt tt
    go true false f = tt
    go false b f = tt

pub never-kept : (x y : NumberSet) (n m : ℕ) → T (kept_in x y (never_both n m)) → T (y n) → T (y m) → ⊥
unfolding never_both
never-kept x y n m k = go (y n) (y m) k
  where
    go : (a b : Bool) → T (false || (not (a && (b && true)) || false)) → T a → T b → ⊥
    go true true k s t = k
    go true false k s t = t
    go false b k s t = s

module _ (ν : Literal → ℕ) (s : LiteralSet) (x y : NumberSet) where
  -- the constraint of one literal
  constraint-holds : (l : Literal)
      → ((a : Atom) → Signed (Positive a) ≡ l → T (s (Signed (Negative a))) → T (y (ν (Signed (Positive a)))) → T (y (ν (Signed (Negative a)))) → ⊥)
      → T (each_of (kept_in x y) (constraints_of ν s l))
  unfolding constraints_of
  constraint-holds (Signed (Positive a)) f = go (s (Signed (Negative a))) refl
    where
      n : ℕ
      n = ν (Signed (Positive a))

      m : ℕ
      m = ν (Signed (Negative a))

      go : (b : Bool) → s (Signed (Negative a)) ≡ b → T (each_of (kept_in x y) (elim b [ true ↦ never_both n m ∷ [] | false ↦ [] ]))
      go true e = both (kept_in x y (never_both n m)) true (kept-never x y n m (f a refl (along (sym e) tt))) tt
      go false e = tt
  constraint-holds (Signed (Negative a)) f = tt
  constraint-holds (Defeated t a) f = tt
  constraint-holds (Derived t a) f = tt
  constraint-holds (RuleDefeated n) f = tt

  pub constraints-hold : (ls : List Literal) → Free ν s ls y → T (each_of (kept_in x y) (constraints_from ν s ls))
  unfolding constraints_from
  constraints-hold [] f = tt
  constraints-hold (l ∷ ls) f =
      along (sym (all_append (kept_in x y) (constraints_of ν s l) (constraints_from ν s ls)))
      (both (each_of (kept_in x y) (constraints_of ν s l)) (each_of (kept_in x y) (constraints_from ν s ls))
      (constraint-holds l (λ a e. f a (Memᴰ.head e))) (constraints-hold ls (λ a w. f a (Memᴰ.tail w))))

  -- where they hold, no atom is there both ways
  constraint-free : (a : Atom) → T (s (Signed (Negative a))) → T (each_of (kept_in x y) (constraints_of ν s (Signed (Positive a))))
      → T (y (ν (Signed (Positive a)))) → T (y (ν (Signed (Negative a)))) → ⊥
  unfolding constraints_of
  constraint-free a t k = go (s (Signed (Negative a))) t k
    where
      n : ℕ
      n = ν (Signed (Positive a))

      m : ℕ
      m = ν (Signed (Negative a))

      go : (b : Bool) → T b → T (each_of (kept_in x y) (elim b [ true ↦ never_both n m ∷ [] | false ↦ [] ])) → T (y n) → T (y m) → ⊥
      go true t k = never-kept x y n m (first (kept_in x y (never_both n m)) true k)
      go false t k = λ a b. t

  -- the constraint of the first literal, and those of the others
  split-first : (l : Literal) (ls : List Literal) → T (each_of (kept_in x y) (constraints_from ν s (l ∷ ls))) → T (each_of (kept_in x y) (constraints_of ν s l))
  unfolding constraints_from
  split-first l ls k =
      first (each_of (kept_in x y) (constraints_of ν s l)) (each_of (kept_in x y) (constraints_from ν s ls))
      (along (all_append (kept_in x y) (constraints_of ν s l) (constraints_from ν s ls)) k)

  split-others : (l : Literal) (ls : List Literal) → T (each_of (kept_in x y) (constraints_from ν s (l ∷ ls))) → T (each_of (kept_in x y) (constraints_from ν s ls))
  unfolding constraints_from
  split-others l ls k =
      second (each_of (kept_in x y) (constraints_of ν s l)) (each_of (kept_in x y) (constraints_from ν s ls))
      (along (all_append (kept_in x y) (constraints_of ν s l) (constraints_from ν s ls)) k)

  pub constraints-free : (ls : List Literal) → T (each_of (kept_in x y) (constraints_from ν s ls)) → Free ν s ls y
  constraints-free [] k a x t = elim x [ ]
  constraints-free (l ∷ ls) k a (Memᴰ.head e) t =
      constraint-free a t (subst (λ (m : Literal). T (each_of (kept_in x y) (constraints_of ν s m))) (sym e) (split-first l ls k))
  constraints-free (l ∷ ls) k a (Memᴰ.tail w) t = constraints-free ls (split-others l ls k) a w t
