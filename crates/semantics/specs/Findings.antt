-- What each finding of a check says of a program and a set (01, "Check"), beside `Verdict`, which says how it is found.
-- In order: the first of a list's elements with a property; the first clash; the first broken rule; the parts of a list and
-- their order; the first smaller model. Not here: the finding itself (`Verdict`); an answer set (`Meaning`).
-- Assumes nothing.
use Rattle.std.specs.Prelude.{ℕ, ◌+◌, ◌≡◌, Bool, T, length}
use mathlib.Core.List.{List, [], ◌∷◌, ◌++◌, Memᴰ}
use Rattle.literal.specs.declared.Literal.{Literal}
use Rattle.semantics.specs.Set.{LiteralSet, ProperSubset, set_of}
use Rattle.semantics.specs.Rule.{Program}
use Rattle.semantics.specs.Meaning.{remainder, quotient, satisfied, models, Interpretation}
use Rattle.semantics.specs.Verdict.{opposed}

-- xs, whose first element has position k: Found holds of the element at position n, and Passed of each before it
pub record FirstAt {A : Type 0} (Found Passed : A → Type 0) (k : ℕ) (xs : List A) (n : ℕ) : Type 0 where
  pub before : List A
  pub here : A
  pub after : List A
  pub splits : xs ≡ before ++ (here ∷ after)
  pub position : n ≡ k + length before
  pub found : Found here
  pub passed : (x : A) → Memᴰ x before → Passed x

-- the element at position n is the first that passes a test
abbrev pub FirstPassing : {A : Type 0} → (A → Bool) → ℕ → List A → ℕ → Type 0
FirstPassing f = FirstAt (λ x. T (f x)) (λ x. T (f x) → ⊥)

-- the literal of ls at position n, counted from k, is the first whose opposite is in s
abbrev pub FirstOpposed : LiteralSet → ℕ → List Literal → ℕ → Type 0
FirstOpposed s = FirstPassing (opposed s)

-- rule number n of p, whose first rule has number k, is the first whose remainder in the quotient by s does not hold in s
abbrev pub FirstBroken : LiteralSet → ℕ → Program → ℕ → Type 0
FirstBroken s = FirstAt (λ r. T (satisfied (remainder r s) s) → ⊥) (λ r. T (satisfied (remainder r s) s))

-- what the finding broken n says: no clash, and rule n is the first that is broken
pub record BrokenAt (p : Program) (ls : List Literal) (n : ℕ) : Type 0 where
  pub consistent : Interpretation (set_of ls)
  pub rule : FirstBroken (set_of ls) 1 p n

-- a part of a list: for each element, from the first on, whether it is absent or present
pub data Part : List Literal → List Literal → Type 0 where
  nil : Part [] []
  absent : {l : Literal} {s ls : List Literal} → Part s ls → Part s (l ∷ ls)
  present : {l : Literal} {s ls : List Literal} → Part s ls → Part (l ∷ s) (l ∷ ls)

-- the order of a list's parts: compared literal by literal, absent before present
abbrev pub Before : {s t ls : List Literal} → Part s ls → Part t ls → Type 0
Before nil nil = ⊥
Before (absent v) (absent w) = Before v w
Before (absent v) (present w) = Unit
Before (present v) (absent w) = ⊥
Before (present v) (present w) = Before v w

-- what the finding smaller s says: no clash, a model, and s is the first part that is a proper subset and a model
pub record SmallerBy (p : Program) (ls s : List Literal) : Type 0 where
  pub consistent : Interpretation (set_of ls)
  pub model : T (models (quotient p (set_of ls)) (set_of ls))
  pub part : Part s ls
  pub proper : ProperSubset (set_of s) (set_of ls)
  pub smaller : T (models (quotient p (set_of ls)) (set_of s))
  pub first : (t : List Literal) (v : Part t ls) → Before v part → ProperSubset (set_of t) (set_of ls) → T (models (quotient p (set_of ls)) (set_of t)) → ⊥
