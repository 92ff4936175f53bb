-- Sets of literals (01, "Meaning": they may hold any number of literals, and may hold a clash).
-- In order: sets; which literals of a list a set holds; subsets; when two literals are the same; a list as a set.
-- Not here: which literals a form takes (`Form`), A: records (`set`).
-- Assumes nothing.
use Rattle.std.specs.Prelude.{◌≡◌, Bool, true, false, ◌&&◌, ◌||◌, List, [], ◌∷◌, T, eqb}
use Rattle.literal.specs.declared.Tag.{Tag}
use Rattle.literal.specs.declared.SignedAtom.{SignedAtom}
use Rattle.literal.specs.declared.SignedAtom.TheVariants.{Positive, Negative}
use Rattle.literal.specs.declared.Literal.{Literal}
use Rattle.literal.specs.declared.Literal.TheVariants.{Signed, Defeated, Derived, RuleDefeated}

-- a set of literals, finite or not: whether each literal is in it
abbrev pub LiteralSet : Type 0
LiteralSet = Literal → Bool

-- some, or each, element of a list passes a test
abbrev pub some_of {ℓ} : {A : Type ℓ} → (A → Bool) → List A → Bool
some_of f [] = false
some_of f (x ∷ xs) = f x || some_of f xs

abbrev pub each_of {ℓ} : {A : Type ℓ} → (A → Bool) → List A → Bool
each_of f [] = true
each_of f (x ∷ xs) = f x && each_of f xs

-- each element of u is one of s; and s has one more
abbrev pub Subset : {A : Type 0} → (A → Bool) → (A → Bool) → Type 0
Subset {A} u s = (x : A) → T (u x) → T (s x)

pub record ProperSubset {A : Type 0} (u s : A → Bool) : Type 0 where
  pub subset : Subset u s
  pub differs : u ≡ s → ⊥

-- the same tag, signed atom or literal
abbrev pub same_tag : Tag → Tag → Bool
same_tag t u = eqb t.0 u.0

abbrev pub same_signed : SignedAtom → SignedAtom → Bool
same_signed (Positive a) (Positive b) = eqb a.0 b.0
same_signed (Positive a) (Negative b) = false
same_signed (Negative a) (Positive b) = false
same_signed (Negative a) (Negative b) = eqb a.0 b.0

abbrev pub same_literal : Literal → Literal → Bool
same_literal (Signed a) (Signed b) = same_signed a b
same_literal (Signed a) (Defeated u b) = false
same_literal (Signed a) (Derived u b) = false
same_literal (Signed a) (RuleDefeated m) = false
same_literal (Defeated t a) (Signed b) = false
same_literal (Defeated t a) (Defeated u b) = same_tag t u && same_signed a b
same_literal (Defeated t a) (Derived u b) = false
same_literal (Defeated t a) (RuleDefeated m) = false
same_literal (Derived t a) (Signed b) = false
same_literal (Derived t a) (Defeated u b) = false
same_literal (Derived t a) (Derived u b) = same_tag t u && same_signed a b
same_literal (Derived t a) (RuleDefeated m) = false
same_literal (RuleDefeated n) (Signed b) = false
same_literal (RuleDefeated n) (Defeated u b) = false
same_literal (RuleDefeated n) (Derived u b) = false
same_literal (RuleDefeated n) (RuleDefeated m) = eqb n.0 m.0

-- the set of a list's literals
abbrev pub set_of : List Literal → LiteralSet
set_of ls l = some_of (same_literal l) ls
