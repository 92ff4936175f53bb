-- Laws of the marks that a rule adds, option by option, and of those of a rule whose record is at hand.
-- In order: one option; options one behind the other; a rule all of whose options are defeated; strict and defeasible rules.
-- Assumes nothing.
use Prim.Native.Nat.{ℕ, ◌+◌, ◌-◌, ◌*◌, ◌≤◌, ◌<◌}
use native.Mathlib.Omega.{arith}
use mathlib.Core.Path.{◌≡◌, refl, sym, ◌∙◌, ap, ap₂}
use mathlib.Core.Bool.{Bool, true, false, cond, not, ◌&&◌}
use mathlib.Core.List.{List, [], ◌∷◌, ◌++◌, map}
use lib.Dec.{T}
use lib.ListN.{length, set}
use mir.Val.{bool_byte}
use Rattle.literal.specs.declared.Tag.{Tag}
use Rattle.literal.specs.declared.SignedAtom.{SignedAtom}
use Rattle.literal.specs.declared.Literal.TheVariants.{Signed, Defeated, Derived}
use Rattle.literal.specs.Order.{key}
use Rattle.semantics.specs.Set.{LiteralSet, each_of}
use Rattle.semantics.proofs.Laws.Tests.{first, second}
use Rattle.record_walk.specs.Code.{option_at, options_at}
use Rattle.record_walk.proofs.Laws.Options.{options-first, options-none}
use Rattle.extend_marks.specs.Marks.{derived_marks}
use Rattle.extend_marks.specs.Code.{Gained}
use Rattle.extend_marks.proofs.Laws.Gained.{gained-kept}

-- in the set and not defeated: both tests, or the first alone where it fails
pub both-tests : (p q r : Bool) → p ≡ true → r ≡ q → not r ≡ (p && not q)
both-tests p q r e f = rw e (ap not f)

pub first-test : (p q r : Bool) → r ≡ p → r ≡ false → r ≡ (p && not q)
first-test p q r e f = f ∙ rw (sym e ∙ f)

module _ (t : Tag) (s : LiteralSet) where
  -- the derivation mark of one option, where it is due
  pub marks-one : (a : SignedAtom) (b : Bool) → b ≡ (s (Signed a) && not (s (Defeated t a)))
      → cond b (key (Derived t a) ∷ []) [] ≡ map key (derived_marks t (a ∷ []) s)
  unfolding derived_marks
  marks-one a b e = ap (λ (c : Bool). cond c (key (Derived t a) ∷ []) []) e ∙ go (s (Signed a) && not (s (Defeated t a)))
    where
      go : (c : Bool) → cond c (key (Derived t a) ∷ []) [] ≡ map key (cond c (Derived t a ∷ []) [])
      go true = refl
      go false = refl

  -- its key, put behind the others and kept where it is due
  pub gained-option : (a : SignedAtom) (d : List ℕ) (n k : ℕ) (b : Bool) → k ≡ key (Derived t a) → b ≡ (s (Signed a) && not (s (Defeated t a))) → n < length d
      → Gained d (set d n k) n (bool_byte b) (map key (derived_marks t (a ∷ []) s))
  gained-option a d n k b e due h = rw (← marks-one a b due, ← e) (gained-kept d n k b h)

  -- an option adds one mark at most
  marks-few : (a : SignedAtom) → length (map key (derived_marks t (a ∷ []) s)) ≤ 1
  unfolding derived_marks
  marks-few a = go (s (Signed a) && not (s (Defeated t a)))
    where
      go : (c : Bool) → length (map key (cond c (Derived t a ∷ []) [])) ≤ 1
      go true = omega arith
      go false = omega arith

  pub gained-few : (a : SignedAtom) {d e : List ℕ} {n r : ℕ} → Gained d e n r (map key (derived_marks t (a ∷ []) s)) → r ≤ 1
  gained-few a g = omega (arith, g.count, marks-few a)

  -- those of an option and of more
  marks-cons : (a : SignedAtom) (h : List SignedAtom) → map key (derived_marks t (a ∷ h) s) ≡ map key (derived_marks t (a ∷ []) s) ++ map key (derived_marks t h s)
  unfolding derived_marks
  marks-cons a h = go (s (Signed a) && not (s (Defeated t a)))
    where
      go : (c : Bool) → map key (cond c (Derived t a ∷ derived_marks t h s) (derived_marks t h s))
          ≡ map key (cond c (Derived t a ∷ []) []) ++ map key (derived_marks t h s)
      go true = refl
      go false = refl

  module _ (x : List ℕ) where
    -- the first of n options in a slice, and those that are left
    pub marks-first : (at n : ℕ) → 0 < n → map key (derived_marks t (options_at x at n) s)
        ≡ map key (derived_marks t (option_at x at ∷ []) s) ++ map key (derived_marks t (options_at x (at + 5) (n - 1)) s)
    marks-first at n h =
        ap (λ (os : List SignedAtom). map key (derived_marks t os s)) (options-first x at n h) ∙ marks-cons (option_at x at) (options_at x (at + 5) (n - 1))

    -- no option left
    pub marks-none : (at n : ℕ) → n ≤ 0 → map key (derived_marks t (options_at x at n) s) ≡ []
    unfolding derived_marks
    marks-none at n h = ap (λ (os : List SignedAtom). map key (derived_marks t os s)) (options-none x at n h)

    -- all options are defeated where the first one is and those that are left are
    pub defeated-next : (at n : ℕ) → 0 < n → s (Defeated t (option_at x at)) ≡ true
        → each_of (λ a. s (Defeated t a)) (options_at x at n) ≡ each_of (λ a. s (Defeated t a)) (options_at x (at + 5) (n - 1))
    defeated-next at n h e =
        ap (each_of (λ a. s (Defeated t a))) (options-first x at n h) ∙ ap (λ (b : Bool). b && each_of (λ a. s (Defeated t a)) (options_at x (at + 5) (n - 1))) e

    pub defeated-not : (at n : ℕ) → 0 < n → s (Defeated t (option_at x at)) ≡ false → each_of (λ a. s (Defeated t a)) (options_at x at n) ≡ false
    defeated-not at n h e =
        ap (each_of (λ a. s (Defeated t a))) (options-first x at n h) ∙ ap (λ (b : Bool). b && each_of (λ a. s (Defeated t a)) (options_at x (at + 5) (n - 1))) e

    pub defeated-none : (at n : ℕ) → n ≤ 0 → each_of (λ a. s (Defeated t a)) (options_at x at n) ≡ true
    defeated-none at n h = ap (each_of (λ a. s (Defeated t a))) (options-none x at n h)

    module _ (from n i : ℕ) (l : i < n) where
      abbrev at : ℕ
      at = from + 5 * i

      rest : options_at x (at + 5) (n - i - 1) ≡ options_at x (from + 5 * (i + 1)) (n - (i + 1))
      rest = ap₂ (options_at x) (omega arith) (omega arith)

      -- option number i of n, and those behind it
      pub marks-step : map key (derived_marks t (options_at x at (n - i)) s)
          ≡ map key (derived_marks t (option_at x at ∷ []) s) ++ map key (derived_marks t (options_at x (from + 5 * (i + 1)) (n - (i + 1))) s)
      marks-step =
          marks-first at (n - i) (omega arith)
          ∙ ap (λ os. map key (derived_marks t (option_at x at ∷ []) s) ++ map key (derived_marks t os s)) rest

      pub defeated-step : s (Defeated t (option_at x at)) ≡ true
          → each_of (λ a. s (Defeated t a)) (options_at x at (n - i)) ≡ each_of (λ a. s (Defeated t a)) (options_at x (from + 5 * (i + 1)) (n - (i + 1)))
      defeated-step e = defeated-next at (n - i) (omega arith) e ∙ ap (each_of (λ a. s (Defeated t a))) rest

  -- where all options are defeated, none is derived
  pub none-derived : (h : List SignedAtom) → T (each_of (λ a. s (Defeated t a)) h) → derived_marks t h s ≡ []
  unfolding derived_marks
  none-derived [] d = refl
  none-derived (a ∷ h) d =
      go (s (Signed a)) (s (Defeated t a)) (first (s (Defeated t a)) (each_of (λ b. s (Defeated t b)) h) d)
      ∙ none-derived h (second (s (Defeated t a)) (each_of (λ b. s (Defeated t b)) h) d)
    where
      go : (p q : Bool) → T q → cond (p && not q) (Derived t a ∷ derived_marks t h s) (derived_marks t h s) ≡ derived_marks t h s
      go true true y = refl
      go true false y = absurd y
      go false q y = refl
