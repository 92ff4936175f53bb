-- Laws of the options that are left of a record, one by one.
-- In order: one option; the first and those behind it; how many; none. Assumes nothing.
use Prim.Native.Nat.{ℕ, ◌+◌, ◌-◌, ◌*◌, ◌≤◌, ◌<◌}
use native.Mathlib.Omega.{arith}
use mathlib.Core.Path.{◌≡◌, ◌∙◌, ap, ap₂}
use mathlib.Core.Bool.{true, false}
use mathlib.Core.List.{List, [], ◌∷◌, ◌++◌}
use lib.ListN.{length, length-append}
use Rattle.literal.specs.declared.SignedAtom.{SignedAtom}
use Rattle.literal.specs.declared.Literal.{Literal}
use Rattle.literal.specs.declared.Literal.TheVariants.{Signed, Defeated}
use Rattle.semantics.specs.Meaning.{undefeated}
use Rattle.semantics.proofs.Laws.Meaning.{undefeated-cons, undefeated-few}
use Rattle.record_walk.specs.Code.{tag_at, option_at, options_at}
use Rattle.record_walk.proofs.Laws.Options.{length-options-at, options-first, options-none}
use Rattle.set.specs.Code.{key_set}
use Rattle.quotient_rule.specs.Code.{left_at}

module _ (t k : List ℕ) (m : ℕ) where
  -- an option that is defeated
  pub left-defeated : (at : ℕ) → key_set k m (Defeated (tag_at t) (option_at t at)) ≡ true → left_at t k m at 1 ≡ []
  unfolding left_at options_at undefeated
  left-defeated at e = rw e

  -- one that is left
  pub left-kept : (at : ℕ) → key_set k m (Defeated (tag_at t) (option_at t at)) ≡ false → left_at t k m at 1 ≡ Signed (option_at t at) ∷ []
  unfolding left_at options_at undefeated
  left-kept at e = rw e

  -- the first, and those behind it
  pub left-first : (at n : ℕ) → 0 < n → left_at t k m at n ≡ left_at t k m at 1 ++ left_at t k m (at + 5) (n - 1)
  unfolding left_at options_at
  left-first at n h =
      ap (λ (os : List SignedAtom). undefeated (tag_at t) os (key_set k m)) (options-first t at n h)
      ∙ undefeated-cons (tag_at t) (option_at t at) (options_at t (at + 5) (n - 1)) (key_set k m)

  -- number i of n is defeated, or left: then those behind it
  module _ (from n i : ℕ) (l : i < n) where
    behind : (ls : List Literal) → ls ++ left_at t k m (from + 5 * i + 5) (n - i - 1) ≡ ls ++ left_at t k m (from + 5 * (i + 1)) (n - (i + 1))
    behind ls = ap₂ (λ (at j : ℕ). ls ++ left_at t k m at j) (omega arith) (omega arith)

    pub left-passed : key_set k m (Defeated (tag_at t) (option_at t (from + 5 * i))) ≡ true
        → left_at t k m (from + 5 * i) (n - i) ≡ left_at t k m (from + 5 * (i + 1)) (n - (i + 1))
    left-passed e =
        left-first (from + 5 * i) (n - i) (omega arith)
        ∙ ap (λ ls. ls ++ left_at t k m (from + 5 * i + 5) (n - i - 1)) (left-defeated (from + 5 * i) e) ∙ behind []

    pub left-taken : key_set k m (Defeated (tag_at t) (option_at t (from + 5 * i))) ≡ false
        → left_at t k m (from + 5 * i) (n - i) ≡ Signed (option_at t (from + 5 * i)) ∷ left_at t k m (from + 5 * (i + 1)) (n - (i + 1))
    left-taken e =
        left-first (from + 5 * i) (n - i) (omega arith)
        ∙ ap (λ ls. ls ++ left_at t k m (from + 5 * i + 5) (n - i - 1)) (left-kept (from + 5 * i) e) ∙ behind (Signed (option_at t (from + 5 * i)) ∷ [])

  -- before the first
  pub left-all : (from n : ℕ) → left_at t k m from n ≡ left_at t k m (from + 5 * 0) (n - 0)
  left-all from n = ap₂ (λ (at j : ℕ). left_at t k m at j) (omega arith) (omega arith)

  -- as many
  pub left-count : (at n : ℕ) → 0 < n → length (left_at t k m at n) ≡ length (left_at t k m at 1) + length (left_at t k m (at + 5) (n - 1))
  left-count at n h = ap length (left-first at n h) ∙ length-append (left_at t k m at 1) (left_at t k m (at + 5) (n - 1))

  -- none
  pub left-none : (at n : ℕ) → n ≤ 0 → left_at t k m at n ≡ []
  unfolding left_at undefeated
  left-none at n h = ap (λ (os : List SignedAtom). undefeated (tag_at t) os (key_set k m)) (options-none t at n h)

  -- no more than there are
  pub left-few : (at n : ℕ) → length (left_at t k m at n) ≤ n
  unfolding left_at
  left-few at n = omega (arith, undefeated-few (tag_at t) (options_at t at n) (key_set k m), length-options-at t n at)
