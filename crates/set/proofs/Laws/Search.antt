-- Laws of the search in a set's slice: what is known of a part is known of one of its halves.
-- In order: keys, and where literals start; a key that is found, or that no literal has; the part that a search has left,
-- halved and at its end. Assumes nothing.
use Prim.Native.Nat.{ℕ, zero, suc, ◌+◌, ◌-◌, ◌*◌, ◌≤◌, ◌<◌}
use native.Mathlib.Omega.{arith}
use native.Mathlib.Nat.{eq-or-lt_of_le, add-zero, one-mul, zero-mul}
use mathlib.Core.Path.{◌≡◌, refl, sym, ◌∙◌, ap, subst}
use mathlib.Core.Bool.{Bool, true, false, cond, ◌||◌, or-true}
use mathlib.Core.Logic.{◌⊎◌, inl, inr}
use mathlib.Core.List.{List}
use lib.Dec.{leb, eqb, ltb}
use lib.ListN.{drop}
use borrow.Author.Tests.{eq-eqb, ne_eqb, eqb-true, eqb-false, ltb-true, ltb-false, leb-true, leb-false}
use Rattle.buffer.specs.Bytes.{Bytes}
use Rattle.buffer.proofs.Laws.Bytes.{bytes_drop}
use Rattle.literal.specs.Code.{key_at, key_room}
use Rattle.literal.proofs.Laws.Order.{key_at-lt}
use Rattle.set.specs.Code.{member_key, Ascends, has_key_from, has_key}

-- a literal's key is at most those of the literals from it on
ascends-le : (s : List ℕ) (n : ℕ) → Ascends s n → (i j : ℕ) → i ≤ j → j < n → member_key s i ≤ member_key s j
ascends-le s n up i j h l = go (eq-or-lt_of_le h)
  where
    go : (i ≡ j) ⊎ (i < j) → member_key s i ≤ member_key s j
    go (inl e) = omega (arith, ap (member_key s) e)
    go (inr below) = omega (arith, up i j below l)

-- a set's keys end where those of five bytes do
pub member-key-lt : (s : List ℕ) → Bytes s → (i : ℕ) → member_key s i < key_room
member-key-lt s bytes i = key_at-lt (drop (4 + 5 * i) s) (bytes_drop (4 + 5 * i) s bytes)

-- where literal number 0 starts, and the one behind number j
pub number-first : (at : ℕ) → at ≡ at + 5 * 0
number-first at = omega arith

pub number-next : (at j : ℕ) → at + 5 + 5 * j ≡ at + 5 * suc j
number-next at j = omega arith

module _ (s : List ℕ) (k : ℕ) where
  -- literal number j has the key
  found_from : (at n j : ℕ) → j < n → key_at (drop (at + 5 * j) s) ≡ k → has_key_from s at n k ≡ true
  unfolding has_key_from
  found_from at zero j h e = absurd (omega arith)
  found_from at (suc n) zero h e = rw (eq-eqb (key_at (drop at s)) k (ap (λ (i : ℕ). key_at (drop i s)) (number-first at) ∙ e))
  found_from at (suc n) (suc j) h e =
      ap (λ (b : Bool). eqb (key_at (drop at s)) k || b)
      (found_from (at + 5) n j (omega arith) (ap (λ (i : ℕ). key_at (drop i s)) (number-next at j) ∙ e))
      ∙ or-true (eqb (key_at (drop at s)) k)

  -- no literal has it
  none_from : (at n : ℕ) → ((j : ℕ) → j < n → key_at (drop (at + 5 * j) s) ≡ k → ⊥) → has_key_from s at n k ≡ false
  unfolding has_key_from
  none_from at zero h = refl
  none_from at (suc n) h =
      rw (ne_eqb (key_at (drop at s)) k (λ e. h 0 (omega arith) (ap (λ (i : ℕ). key_at (drop i s)) (sym (number-first at)) ∙ e)))
      (none_from (at + 5) n (λ j l e. h (suc j) (omega arith) (ap (λ (i : ℕ). key_at (drop i s)) (sym (number-next at j)) ∙ e)))

  pub has-key-found : (n j : ℕ) → j < n → member_key s j ≡ k → has_key s n k ≡ true
  unfolding has_key
  has-key-found n j h e = found_from 4 n j h e

  pub has-key-none : (n : ℕ) → ((j : ℕ) → j < n → member_key s j ≡ k → ⊥) → has_key s n k ≡ false
  unfolding has_key
  has-key-none n h = none_from 4 n h

  -- a literal with the key, if there is one, is one of `size` from `base` on
  pub record Part (n base size : ℕ) : Type 0 where
    pub some_left : 0 < size
    pub inside : base + size ≤ n
    pub lies : (j : ℕ) → j < n → member_key s j ≡ k → (base ≤ j) × (j < base + size)

  -- the whole set
  pub part-whole : (n : ℕ) → 0 < n → Part n 0 n
  part-whole n h = record { some_left = h; inside = omega arith; lies = λ j l e. (omega arith, omega arith) }

  module _ (n base size half : ℕ) (up : Ascends s n) (some-half : 0 < half) (two : 2 * half ≤ size) (p : Part n base size) where
    -- the literal behind the first half is not above the key: the second half is left
    pub part-upper : member_key s (base + half) ≤ k → Part n (base + half) (size - half)
    part-upper m =
        record {
          some_left = omega arith;
          inside = omega (arith, p.inside);
          lies = λ j l e. go j l e (ltb j (base + half)) refl;
        }
      where
        go : (j : ℕ) → j < n → member_key s j ≡ k → (b : Bool) → ltb j (base + half) ≡ b → (base + half ≤ j) × (j < base + half + (size - half))
        go j l e true q = absurd (omega (arith, up j (base + half) (ltb-true j (base + half) q) (omega (arith, p.inside))))
        go j l e false q = (ltb-false j (base + half) q, omega (arith, p.lies j l e))

    -- it is above the key: the first half is left
    pub part-lower : k < member_key s (base + half) → Part n base (size - half)
    part-lower m =
        record {
          some_left = omega arith;
          inside = omega (arith, p.inside);
          lies = λ j l e. ((p.lies j l e).0, go j l e (ltb j (base + half)) refl);
        }
      where
        go : (j : ℕ) → j < n → member_key s j ≡ k → (b : Bool) → ltb j (base + half) ≡ b → j < base + (size - half)
        go j l e true q = omega (arith, ltb-true j (base + half) q)
        go j l e false q = absurd (omega (arith, ascends-le s n up (base + half) j (ltb-false j (base + half) q) l))

    -- both, by a number that is 1 or 0
    pub part_step : (w : ℕ) → w ≡ cond (leb (member_key s (base + half)) k) 1 0 → Part n (base + w * half) (size - half)
    part_step w e = go (leb (member_key s (base + half)) k) refl e
      where
        go : (b : Bool) → leb (member_key s (base + half)) k ≡ b → w ≡ cond b 1 0 → Part n (base + w * half) (size - half)
        go true q e =
            subst (λ (i : ℕ). Part n i (size - half)) (ap (λ (i : ℕ). base + i) (sym (one-mul half)) ∙ ap (λ (i : ℕ). base + i * half) (sym e))
            (part-upper (leb-true (member_key s (base + half)) k q))
        go false q e =
            subst (λ (i : ℕ). Part n i (size - half))
            (sym (add-zero base) ∙ ap (λ (i : ℕ). base + i) (sym (zero-mul half)) ∙ ap (λ (i : ℕ). base + i * half) (sym e))
            (part-lower (leb-false (member_key s (base + half)) k q))

  -- one literal is left: its key decides
  pub part-one : (n base size : ℕ) → Part n base size → size ≤ 1 → has_key s n k ≡ eqb (member_key s base) k
  part-one n base size p h = go (eqb (member_key s base) k) refl
    where
      go : (b : Bool) → eqb (member_key s base) k ≡ b → has_key s n k ≡ b
      go true e = has-key-found n base (omega (arith, p.some_left, p.inside)) (eqb-true (member_key s base) k e)
      go false e = has-key-none n (λ j l q. eqb-false (member_key s base) k e (subst (λ (i : ℕ). member_key s i ≡ k) (only j (p.lies j l q)) q))
        where
          only : (j : ℕ) → (base ≤ j) × (j < base + size) → j ≡ base
          only j w = omega arith
