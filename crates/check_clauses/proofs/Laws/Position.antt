-- Laws of the positions of keys in a set's slice.
-- In order: a key that is found, and one that is not; keys one by one; the positions of a set's literals.
-- Assumes nothing.
use Prim.Native.Nat.{ℕ, zero, suc, ◌+◌, ◌*◌, ◌-◌, ◌^◌, ◌<◌}
use native.Mathlib.Omega.{arith}
use mathlib.Core.Path.{◌≡◌, refl, sym, ◌∙◌, ap}
use mathlib.Core.Bool.{Bool, true, false, cond, ◌||◌}
use mathlib.Core.List.{List}
use lib.Dec.{eqb}
use lib.ListN.{drop}
use lib.Pow.{pow_pos}
use borrow.Author.Tests.{eq-eqb, ne_eqb}
use Rattle.literal.specs.Code.{key_at}
use Rattle.set.specs.Code.{Ascends, has_key_from, has_key, At}
use Rattle.set.proofs.Laws.Search.{number-first, number-next}
use Rattle.check_clauses.specs.Code.{key_mask_from, key_mask}

module _ (s : List ℕ) (k : ℕ) where
  -- the key of literal number j, where those before it have smaller keys
  found_from : (at n j : ℕ) → ((i : ℕ) → i < j → key_at (drop (at + 5 * i) s) ≡ k → ⊥) → j < n → key_at (drop (at + 5 * j) s) ≡ k
      → key_mask_from s at n k ≡ 2 ^ (n - 1 - j)
  unfolding key_mask_from
  found_from at zero j f h e = absurd (omega arith)
  found_from at (suc n) zero f h e =
      rw (eq-eqb (key_at (drop at s)) k (ap (λ (i : ℕ). key_at (drop i s)) (number-first at) ∙ e)) (ap (λ (i : ℕ). 2 ^ i) (omega arith))
  found_from at (suc n) (suc j) f h e =
      rw (ne_eqb (key_at (drop at s)) k (λ q. f 0 (omega arith) (ap (λ (i : ℕ). key_at (drop i s)) (sym (number-first at)) ∙ q)))
      (found_from (at + 5) n j (λ i l q. f (suc i) (omega arith) (ap (λ (m : ℕ). key_at (drop m s)) (sym (number-next at i)) ∙ q)) (omega arith)
      (ap (λ (m : ℕ). key_at (drop m s)) (number-next at j) ∙ e)
      ∙ ap (λ (i : ℕ). 2 ^ i) (omega arith))

  -- the mask of a key that no literal has is empty, and that of another is not
  none_from : (at n : ℕ) → has_key_from s at n k ≡ false → key_mask_from s at n k ≡ 0
  unfolding key_mask_from has_key_from
  none_from at zero e = refl
  none_from at (suc n) e = go (eqb (key_at (drop at s)) k) e (none_from (at + 5) n)
    where
      go : (b : Bool) → (b || has_key_from s (at + 5) n k) ≡ false → (has_key_from s (at + 5) n k ≡ false → key_mask_from s (at + 5) n k ≡ 0)
          → cond b (2 ^ n) (key_mask_from s (at + 5) n k) ≡ 0
      go true q ih = absurd (let z : ◌≡◌ {A = ℕ} 0 1 = cc in omega arith)
      go false q ih = ih q

  some-from : (at n : ℕ) → has_key_from s at n k ≡ true → 0 < key_mask_from s at n k
  unfolding key_mask_from has_key_from
  some-from at zero e = absurd (let z : ◌≡◌ {A = ℕ} 0 1 = cc in omega arith)
  some-from at (suc n) e = go (eqb (key_at (drop at s)) k) e (some-from (at + 5) n)
    where
      go : (b : Bool) → (b || has_key_from s (at + 5) n k) ≡ true → (has_key_from s (at + 5) n k ≡ true → 0 < key_mask_from s (at + 5) n k)
          → 0 < cond b (2 ^ n) (key_mask_from s (at + 5) n k)
      go true q ih = pow_pos n
      go false q ih = ih q

  module _ (n : ℕ) where
    pub key-mask-none : has_key s n k ≡ false → key_mask s n k ≡ 0
    unfolding key_mask has_key
    key-mask-none e = none_from 4 n e

    pub key-mask-some : has_key s n k ≡ true → 0 < key_mask s n k
    unfolding key_mask has_key
    key-mask-some e = some-from 4 n e

    -- an empty mask is that of a key that no literal has
    pub key-mask-empty : key_mask s n k ≡ 0 → has_key s n k ≡ false
    key-mask-empty e = go (has_key s n k) refl
      where
        go : (b : Bool) → has_key s n k ≡ b → b ≡ false
        go true q = absurd (omega (arith, key-mask-some q))
        go false q = refl

    pub key-mask-filled : (key_mask s n k ≡ 0 → ⊥) → has_key s n k ≡ true
    key-mask-filled f = go (has_key s n k) refl
      where
        go : (b : Bool) → has_key s n k ≡ b → b ≡ true
        go true q = refl
        go false q = absurd (f (key-mask-none q))

    -- the mask of a key, by the place of its literal
    pub key-mask-place : Ascends s n → (r : ℕ) → At s n k r → key_mask s n k ≡ 2 ^ (n - 1 - r)
    unfolding key_mask
    key-mask-place up r p =
        found_from 4 n r (λ i l e. omega (arith, up i r l p.inside, p.same, e)) p.inside p.same
