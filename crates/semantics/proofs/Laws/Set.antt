-- Laws of sets: the tests of sameness are equalities; two sets with the same literals are one; minimality.
-- Assumes nothing.
use mathlib.Core.Path.{◌≡◌, sym, ap, ap₂, subst, fun_ext}
use mathlib.Core.Bool.{Bool}
use mathlib.Core.Logic.{◌⊎◌, inl, inr}
use mathlib.Core.List.Memᴰ
use mathlib.Core.List.{List, Memᴰ}
use lib.Dec.{T, eqb→eq, eqb_refl}
use Rattle.literal.specs.declared.Tag.{Tag}
use Rattle.literal.specs.declared.Atom.{Atom}
use Rattle.literal.specs.declared.RuleNo.{RuleNo}
use Rattle.literal.specs.declared.SignedAtom.{SignedAtom}
use Rattle.literal.specs.declared.SignedAtom.TheVariants.{Positive, Negative}
use Rattle.literal.specs.declared.Literal.{Literal}
use Rattle.literal.specs.declared.Literal.TheVariants.{Signed, Defeated, Derived, RuleDefeated}
use Rattle.semantics.specs.Set.{Subset, ProperSubset, same_tag, same_signed, same_literal, set_of}
use Rattle.semantics.proofs.Laws.Tests.{first, second, both, decide, any-mem, any_found, same_test}

-- a number in a tuple struct is the struct
tag-eq : (t u : Tag) → t.0 ≡ u.0 → t ≡ u
tag-eq t u e = λ i. record { 0 = e i }

atom-eq : (a b : Atom) → a.0 ≡ b.0 → a ≡ b
atom-eq a b e = λ i. record { 0 = e i }

number-eq : (n m : RuleNo) → n.0 ≡ m.0 → n ≡ m
number-eq n m e = λ i. record { 0 = e i }

-- what passes the test of sameness is equal, and a thing is the same as itself
pub same-tag-eq : (t u : Tag) → T (same_tag t u) → t ≡ u
same-tag-eq t u h = tag-eq t u (eqb→eq t.0 u.0 h)

pub same-tag-refl : (t : Tag) → T (same_tag t t)
same-tag-refl t = eqb_refl t.0

pub same-signed-eq : (a b : SignedAtom) → T (same_signed a b) → a ≡ b
same-signed-eq (Positive a) (Positive b) h = ap Positive (atom-eq a b (eqb→eq a.0 b.0 h))
same-signed-eq (Positive a) (Negative b) h = absurd h
same-signed-eq (Negative a) (Positive b) h = absurd h
same-signed-eq (Negative a) (Negative b) h = ap Negative (atom-eq a b (eqb→eq a.0 b.0 h))

pub same-signed-refl : (a : SignedAtom) → T (same_signed a a)
same-signed-refl (Positive a) = eqb_refl a.0
same-signed-refl (Negative a) = eqb_refl a.0

pub same-literal-eq : (l m : Literal) → T (same_literal l m) → l ≡ m
same-literal-eq (Signed a) (Signed b) h = ap Signed (same-signed-eq a b h)
same-literal-eq (Signed a) (Defeated u b) h = absurd h
same-literal-eq (Signed a) (Derived u b) h = absurd h
same-literal-eq (Signed a) (RuleDefeated m) h = absurd h
same-literal-eq (Defeated t a) (Signed b) h = absurd h
same-literal-eq (Defeated t a) (Defeated u b) h =
    ap₂ Defeated (same-tag-eq t u (first (same_tag t u) (same_signed a b) h)) (same-signed-eq a b (second (same_tag t u) (same_signed a b) h))
same-literal-eq (Defeated t a) (Derived u b) h = absurd h
same-literal-eq (Defeated t a) (RuleDefeated m) h = absurd h
same-literal-eq (Derived t a) (Signed b) h = absurd h
same-literal-eq (Derived t a) (Defeated u b) h = absurd h
same-literal-eq (Derived t a) (Derived u b) h =
    ap₂ Derived (same-tag-eq t u (first (same_tag t u) (same_signed a b) h)) (same-signed-eq a b (second (same_tag t u) (same_signed a b) h))
same-literal-eq (Derived t a) (RuleDefeated m) h = absurd h
same-literal-eq (RuleDefeated n) (Signed b) h = absurd h
same-literal-eq (RuleDefeated n) (Defeated u b) h = absurd h
same-literal-eq (RuleDefeated n) (Derived u b) h = absurd h
same-literal-eq (RuleDefeated n) (RuleDefeated m) h = ap RuleDefeated (number-eq n m (eqb→eq n.0 m.0 h))

pub same-literal-refl : (l : Literal) → T (same_literal l l)
same-literal-refl (Signed a) = same-signed-refl a
same-literal-refl (Defeated t a) = both (same_tag t t) (same_signed a a) (same-tag-refl t) (same-signed-refl a)
same-literal-refl (Derived t a) = both (same_tag t t) (same_signed a a) (same-tag-refl t) (same-signed-refl a)
same-literal-refl (RuleDefeated n) = eqb_refl n.0

-- a list's set holds the list's literals and no other
pub set-of-mem : {l : Literal} {ls : List Literal} → Memᴰ l ls → T (set_of ls l)
set-of-mem {l} m = any-mem (same_literal l) m (same-literal-refl l)

pub mem-set-of : (l : Literal) (ls : List Literal) → T (set_of ls l) → Memᴰ l ls
mem-set-of l ls t =
    let found = any_found (same_literal l) ls t in
    Memᴰ.cast (same-literal-eq l found.0 found.2) found.1

module _ {A : Type 0} where
  -- two sets, each part of the other, are equal
  pub set-ext : (s u : A → Bool) → Subset s u → Subset u s → s ≡ u
  set-ext s u f g = fun_ext (λ x. same_test (s x) (u x) (f x) (g x))

  -- "no proper subset has the property" says the same as "each subset that has the property contains the set"
  pub minimal-contains : (s : A → Bool) (P : (A → Bool) → Type 0)
      → ((u : A → Bool) → ProperSubset u s → P u → ⊥) → (u : A → Bool) → Subset u s → P u → Subset s u
  minimal-contains s P h u sub pu x t = go (decide (u x))
    where
      go : T (u x) ⊎ (T (u x) → ⊥) → T (u x)
      go (inl y) = y
      go (inr n) = absurd (h u (record { subset = sub; differs = λ e. n (subst (λ (v : A → Bool). T (v x)) (sym e) t) }) pu)

  pub contains-minimal : (s : A → Bool) (P : (A → Bool) → Type 0)
      → ((u : A → Bool) → Subset u s → P u → Subset s u) → (u : A → Bool) → ProperSubset u s → P u → ⊥
  contains-minimal s P h u sub pu = sub.differs (set-ext u s sub.subset (h u sub.subset pu))
