-- Places marked: one, and one run of them behind another.
-- In order: zeros; one place of a word; no place, and one run behind another; all literals that occur.
-- Assumes nothing.
use Prim.Native.Nat.{ℕ, zero, suc, ◌+◌, ◌*◌, ◌/◌, ◌%◌, ◌^◌, ◌≤◌, ◌<◌}
use native.Mathlib.Omega.{arith}
use mathlib.Core.Path.{◌≡◌, refl, sym, ap, ◌∙◌}
use mathlib.Core.Bool.{Bool, true, false, cond, not, ◌||◌, or_assoc, or-false}
use mathlib.Core.List.{List, [], ◌∷◌, ◌++◌}
use lib.Bits.{bit_or}
use lib.Count.{ones}
use lib.Dec.{eqb}
use lib.ListN.{length, get_or, set, replicate, length-set}
use lib.Seq.{get_or-set_same, get_or-set_other}
use borrow.Author.Tests.{eqb-true, eqb-false, eq-eqb, ne_eqb}
use mir.Val.{bool_byte}
use Rattle.mask.specs.Code.{has}
use Rattle.mask.proofs.Laws.Member.{has-or}
use Rattle.mask.proofs.Laws.Place.{has-pow, ones-with}
use Rattle.keys.specs.Keys.{key_in}
use Rattle.keys.proofs.Laws.Members.{or_swap, in-append}
use Rattle.aspif_place.specs.Code.{marked}
use Rattle.aspif_number.specs.Code.{Empty, Gained, Tallied}

-- a row of zeros has no mark
pub zeros-empty : (n : ℕ) → Empty (replicate n 0)
zeros-empty zero w = refl
zeros-empty (suc n) zero = refl
zeros-empty (suc n) (suc w) = zeros-empty n w

or-flip : (a b : Bool) → (a || b) ≡ (b || a)
or-flip true b = sym (or-true b)
  where
    or-true : (b : Bool) → (b || true) ≡ true
    or-true true = refl
    or-true false = refl
or-flip false b = sym (or-false b)

-- what is not there yet counts one
new-byte : (old : Bool) → bool_byte (not old) ≡ cond old 0 1
new-byte true = refl
new-byte false = refl

pub byte_le : (b : Bool) → bool_byte b ≤ 1
byte_le true = omega arith
byte_le false = omega arith

-- the words with place i of them marked
abbrev pub with_place : List ℕ → ℕ → List ℕ
with_place bits i = set bits (i / 64) (bit_or (get_or bits (i / 64) 0) (2 ^ (i % 64)))

module _ (bits : List ℕ) (i : ℕ) (h : i < 64 * length bits) where
  -- its own word has it besides
  own-word : (j : ℕ) → j / 64 ≡ i / 64 → get_or (with_place bits i) (j / 64) 0 ≡ bit_or (get_or bits (j / 64) 0) (2 ^ (i % 64))
  own-word j e =
      ap (λ (w : ℕ). get_or (with_place bits i) w 0) e ∙ get_or-set_same bits (i / 64) _ 0 (omega arith)
      ∙ ap (λ (w : ℕ). bit_or (get_or bits w 0) (2 ^ (i % 64))) (sym e)

  same_place : (j : ℕ) → j / 64 ≡ i / 64 → eqb (j % 64) (i % 64) ≡ eqb j i
  same_place j e = go (eqb j i) refl
    where
      go : (b : Bool) → eqb j i ≡ b → eqb (j % 64) (i % 64) ≡ b
      go true p = eq-eqb (j % 64) (i % 64) (ap (λ (x : ℕ). x % 64) (eqb-true j i p))
      go false p = ne_eqb (j % 64) (i % 64) (λ q. eqb-false j i p (omega (arith, e, q)))

  marked-place : (j : ℕ) → marked (with_place bits i) j ≡ (eqb j i || marked bits j)
  unfolding marked
  marked-place j = go (eqb (j / 64) (i / 64)) refl
    where
      go : (b : Bool) → eqb (j / 64) (i / 64) ≡ b → has (get_or (with_place bits i) (j / 64) 0) (j % 64) ≡ (eqb j i || has (get_or bits (j / 64) 0) (j % 64))
      go true p =
          let e = eqb-true (j / 64) (i / 64) p in
          let m = get_or bits (j / 64) 0 in
          ap (λ (x : ℕ). has x (j % 64)) (own-word j e) ∙ has-or m (2 ^ (i % 64)) (j % 64) ∙ or-flip (has m (j % 64)) (has (2 ^ (i % 64)) (j % 64))
          ∙ ap (λ (b : Bool). b || has m (j % 64)) (has-pow (i % 64) (j % 64) ∙ same_place j e)
      go false p =
          let n = eqb-false (j / 64) (i / 64) p in
          ap (λ (x : ℕ). has x (j % 64)) (get_or-set_other bits (i / 64) (j / 64) _ 0 n)
          ∙ ap (λ (b : Bool). b || has (get_or bits (j / 64) 0) (j % 64)) (sym (ne_eqb j i (λ q. n (ap (λ (x : ℕ). x / 64) q))))

  pub gained-place : Gained bits (with_place bits i) (i ∷ [])
  gained-place = record {
    same = length-set bits (i / 64) _;
    mark = λ j. marked-place j ∙ ap (λ (b : Bool). b || marked bits j) (sym (or-false (eqb j i)));
  }

  -- and it is counted there, where it is new
  pub tallied-place : (counts : List ℕ) → Tallied bits counts → (old : Bool) → old ≡ has (get_or bits (i / 64) 0) (i % 64)
      → Tallied (with_place bits i) (set counts (i / 64) (get_or counts (i / 64) 0 + bool_byte (not old)))
  tallied-place counts t old e = record { same = simp length-set t.same; tally = λ w. go w (eqb w (i / 64)) refl }
    where
      go : (w : ℕ) (b : Bool) → eqb w (i / 64) ≡ b
          → get_or (set counts (i / 64) (get_or counts (i / 64) 0 + bool_byte (not old))) w 0 ≡ ones (get_or (with_place bits i) w 0)
      go w true p =
          let m = get_or bits (i / 64) 0 in
          rw (eqb-true w (i / 64) p, get_or-set_same counts (i / 64) _ 0 (omega (arith, t.same)), get_or-set_same bits (i / 64) _ 0 (omega arith))
          (omega (arith, t.tally (i / 64), ones-with m (i % 64), new-byte old, ap {B = ℕ} (λ (b : Bool). cond b 0 1) e))
      go w false p =
          let g = eqb-false w (i / 64) p in
          get_or-set_other counts (i / 64) w _ 0 g ∙ t.tally w ∙ ap ones (sym (get_or-set_other bits (i / 64) w _ 0 g))

-- no place, and one run of places behind another
pub gained-none : (d : List ℕ) → Gained d d []
gained-none d = record { same = refl; mark = λ i. refl }

pub gained-more : {d e f xs ys : List ℕ} → Gained d e xs → Gained e f ys → Gained d f (xs ++ ys)
gained-more {d} {e} {f} {xs} {ys} a b = record {
  same = b.same ∙ a.same;
  mark = λ i.
      b.mark i ∙ ap (λ (t : Bool). key_in i ys || t) (a.mark i) ∙ or_swap (key_in i ys) (key_in i xs) (marked d i)
      ∙ sym (or_assoc (key_in i xs) (key_in i ys) (marked d i)) ∙ ap (λ (t : Bool). t || marked d i) (sym (in-append i xs ys));
}
