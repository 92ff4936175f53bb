-- Laws of a run of literals and a set: whether one of them is in it.
-- In order: one by one; literals that stand in a slice. Assumes nothing.
use Prim.Native.Nat.{ℕ, zero, suc, ◌+◌, ◌*◌, ◌-◌, ◌≤◌, ◌<◌}
use native.Mathlib.Omega.{arith}
use mathlib.Core.Path.{◌≡◌, refl, sym, ◌∙◌, ap, ap₂}
use mathlib.Core.Bool.{Bool, true, false, ◌||◌}
use mathlib.Core.List.{List, [], ◌∷◌, ◌++◌, append_assoc}
use lib.ListN.{length, drop}
use lib.Seq.{drop-drop, drop_at}
use Rattle.literal.specs.declared.Literal.{Literal}
use Rattle.literal.specs.Literal.{encoded}
use Rattle.literal.specs.Code.{key_at}
use Rattle.literal.proofs.Laws.Literal.{length-encoded}
use Rattle.literal.proofs.Laws.Order.{key_at-encoded}
use Rattle.semantics.specs.Set.{some_of}
use Rattle.record.specs.Layout.{encoded_literals}
use Rattle.set.specs.Code.{has_key, key_set, any_key}

module _ (s : List ℕ) (n : ℕ) (t : List ℕ) where
  -- the first is in the set
  pub any-key-first : (m at : ℕ) → 0 < m → has_key s n (key_at (drop at t)) ≡ true → any_key s n m t at ≡ true
  unfolding any_key
  any-key-first zero at h e = absurd (omega arith)
  any-key-first (suc m) at h e = rw e

  -- the first is not
  pub any-key-next : (m at : ℕ) → 0 < m → has_key s n (key_at (drop at t)) ≡ false → any_key s n m t at ≡ any_key s n (m - 1) t (at + 5)
  unfolding any_key
  any-key-next zero at h e = absurd (omega arith)
  any-key-next (suc m) at h e = rw e (ap (λ (k : ℕ). any_key s n k t (at + 5)) back)
    where
      back : m ≡ suc m - 1
      back = omega arith

  -- of m literals from `at` on, number i is not, behind others that are not
  pub any-key-step : (m i at : ℕ) → i < m → has_key s n (key_at (drop (at + 5 * i) t)) ≡ false
      → any_key s n (m - i) t (at + 5 * i) ≡ any_key s n (m - (i + 1)) t (at + 5 * (i + 1))
  any-key-step m i at l e =
      any-key-next (m - i) (at + 5 * i) (omega arith) e ∙ ap₂ (λ (j k : ℕ). any_key s n j t k) (omega arith) (omega arith)

  pub any-key-start : (m at : ℕ) → any_key s n m t at ≡ any_key s n (m - 0) t (at + 5 * 0)
  any-key-start m at = ap₂ (λ (j k : ℕ). any_key s n j t k) (omega arith) (omega arith)

  -- none is left
  pub any-key-none : (m at : ℕ) → m ≤ 0 → any_key s n m t at ≡ false
  unfolding any_key
  any-key-none zero at h = refl
  any-key-none (suc m) at h = absurd (omega arith)

  -- of literals that stand in a slice, one has a key of the set where one is in the set of keys
  pub any-key-literals : (ls : List Literal) (at : ℕ) (rest : List ℕ) → drop at t ≡ encoded_literals ls ++ rest
      → any_key s n (length ls) t at ≡ some_of (key_set s n) ls
  unfolding any_key encoded_literals
  any-key-literals [] at rest e = refl
  any-key-literals (l ∷ ls) at rest e =
      let here = e ∙ append_assoc (encoded l) (encoded_literals ls) rest in
      let next = sym (drop-drop 5 at t) ∙ ap (drop 5) here ∙ drop_at (encoded l) (encoded_literals ls ++ rest) 5 (length-encoded l) in
      ap₂ (λ (x y : Bool). x || y) (ap (has_key s n) (ap key_at here ∙ key_at-encoded l (encoded_literals ls ++ rest))) (any-key-literals ls (at + 5) rest next)
