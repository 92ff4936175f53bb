-- Laws of keys in a slice and unions of their positions, one by one.
-- In order: the first key, and none; a union with one more; of keys in a slice; whether the set has each.
-- Assumes nothing.
use Prim.Native.Nat.{ℕ, zero, suc, ◌+◌, ◌*◌, ◌-◌, ◌≤◌, ◌<◌}
use native.Mathlib.Omega.{arith}
use mathlib.Core.Path.{◌≡◌, refl, sym, ◌∙◌, ap, ap₂}
use mathlib.Core.Bool.{Bool, true, false, ◌&&◌}
use mathlib.Core.List.{List, [], ◌∷◌, ◌++◌}
use lib.Bits.{bit_or, or_zero_l, or_zero_r}
use lib.ListN.{drop}
use Rattle.literal.specs.Code.{key_at}
use Rattle.semantics.specs.Set.{each_of}
use Rattle.mask.proofs.Laws.Part.{or_assoc}
use Rattle.set.specs.Code.{has_key}
use Rattle.std.specs.Prelude.{Some, None}
use Rattle.check_clauses.specs.Code.{key_mask, keys_at, union, positions_of}

module _ (t : List ℕ) where
  -- the first key, and those that are left
  pub keys-first : (at n : ℕ) → 0 < n → keys_at t at n ≡ key_at (drop at t) ∷ keys_at t (at + 5) (n - 1)
  unfolding keys_at
  keys-first at zero h = absurd (omega arith)
  keys-first at (suc n) h = ap (λ (k : ℕ). key_at (drop at t) ∷ keys_at t (at + 5) k) back
    where
      back : n ≡ suc n - 1
      back = omega arith

  -- no key left
  pub keys_none : (at n : ℕ) → n ≤ 0 → keys_at t at n ≡ []
  unfolding keys_at
  keys_none at zero h = refl
  keys_none at (suc n) h = absurd (omega arith)

-- a union, begun, one element further, and at its end
module _ {A : Type 0} (f : A → ℕ) where
  pub union-start : (xs : List A) → union f xs ≡ bit_or 0 (union f xs)
  union-start xs = sym (or_zero_l (union f xs))

  pub union-next : (so : ℕ) (x : A) (xs : List A) → bit_or so (union f (x ∷ xs)) ≡ bit_or (bit_or so (f x)) (union f xs)
  unfolding union
  union-next so x xs = sym (or_assoc so (f x) (union f xs))

  pub union-end : (so : ℕ) → bit_or so (union f []) ≡ so
  unfolding union
  union-end so = or_zero_r so

  -- of two lists
  pub union-append : (xs ys : List A) → union f (xs ++ ys) ≡ bit_or (union f xs) (union f ys)
  unfolding union
  union-append [] ys = sym (or_zero_l (union f ys))
  union-append (x ∷ xs) ys = ap (bit_or (f x)) (union-append xs ys) ∙ sym (or_assoc (f x) (union f xs) (union f ys))

module _ (s : List ℕ) (n : ℕ) (t : List ℕ) where
  -- the positions of keys in a slice
  pub positions-next : (at m so one : ℕ) → 0 < m → one ≡ key_mask s n (key_at (drop at t))
      → bit_or so (union (key_mask s n) (keys_at t at m)) ≡ bit_or (bit_or so one) (union (key_mask s n) (keys_at t (at + 5) (m - 1)))
  positions-next at m so one h e =
      ap (λ (ks : List ℕ). bit_or so (union (key_mask s n) ks)) (keys-first t at m h)
      ∙ union-next (key_mask s n) so (key_at (drop at t)) (keys_at t (at + 5) (m - 1))
      ∙ ap (λ (k : ℕ). bit_or (bit_or so k) (union (key_mask s n) (keys_at t (at + 5) (m - 1)))) (sym e)

  pub positions-end : (at m so : ℕ) → m ≤ 0 → bit_or so (union (key_mask s n) (keys_at t at m)) ≡ so
  positions-end at m so h = ap (λ (ks : List ℕ). bit_or so (union (key_mask s n) ks)) (keys_none t at m h) ∙ union-end (key_mask s n) so

  -- whether the set has each
  pub all-missing : (at m : ℕ) → 0 < m → has_key s n (key_at (drop at t)) ≡ false → each_of (has_key s n) (keys_at t at m) ≡ false
  all-missing at m h e = ap (each_of (has_key s n)) (keys-first t at m h) ∙ ap (λ (b : Bool). b && each_of (has_key s n) (keys_at t (at + 5) (m - 1))) e

  pub all-next : (at m : ℕ) → 0 < m → has_key s n (key_at (drop at t)) ≡ true
      → each_of (has_key s n) (keys_at t at m) ≡ each_of (has_key s n) (keys_at t (at + 5) (m - 1))
  all-next at m h e = ap (each_of (has_key s n)) (keys-first t at m h) ∙ ap (λ (b : Bool). b && each_of (has_key s n) (keys_at t (at + 5) (m - 1))) e

  pub all_end : (at m : ℕ) → m ≤ 0 → each_of (has_key s n) (keys_at t at m) ≡ true
  all_end at m h = ap (each_of (has_key s n)) (keys_none t at m h)

module _ (s : List ℕ) (n : ℕ) (ks : List ℕ) where
  pub positions-missing : each_of (has_key s n) ks ≡ false → positions_of s n ks ≡ None
  unfolding positions_of
  positions-missing e = rw e

  pub positions-whole : each_of (has_key s n) ks ≡ true → positions_of s n ks ≡ Some (union (key_mask s n) ks)
  unfolding positions_of
  positions-whole e = rw e

-- literal number i of m, from 0, in a slice
module _ (s : List ℕ) (n : ℕ) (t : List ℕ) (m i from : ℕ) (l : i < m) where
  behind : keys_at t (from + 5 * i + 5) (m - i - 1) ≡ keys_at t (from + 5 * (i + 1)) (m - (i + 1))
  behind = ap₂ (keys_at t) (omega arith) (omega arith)

  pub positions-step : (so one : ℕ) → one ≡ key_mask s n (key_at (drop (from + 5 * i) t))
      → bit_or so (union (key_mask s n) (keys_at t (from + 5 * i) (m - i))) ≡ bit_or (bit_or so one) (union (key_mask s n) (keys_at t (from + 5 * (i + 1)) (m - (i + 1))))
  positions-step so one e =
      positions-next s n t (from + 5 * i) (m - i) so one (omega arith) e ∙ ap (λ (ks : List ℕ). bit_or (bit_or so one) (union (key_mask s n) ks)) behind

  pub all-step : has_key s n (key_at (drop (from + 5 * i) t)) ≡ true
      → each_of (has_key s n) (keys_at t (from + 5 * i) (m - i)) ≡ each_of (has_key s n) (keys_at t (from + 5 * (i + 1)) (m - (i + 1)))
  all-step e = all-next s n t (from + 5 * i) (m - i) (omega arith) e ∙ ap (each_of (has_key s n)) behind
