-- One place of a mask, as a number: the digit there, a power of two added above, the mask of that place alone.
-- In order: a number above and the digits below; one digit more, and counted; the mask of one place; that place put in; the first k
-- places; shifts.
-- Assumes nothing.
use Prim.Native.Nat.{ℕ, zero, suc, ◌+◌, ◌-◌, ◌*◌, ◌/◌, ◌%◌, ◌^◌, ◌≤◌, ◌<◌}
use native.Mathlib.Nat.{mod-lt, mod-eq_of_lt, zero-lt-suc, not-suc-le-zero, le_of_suc-le-suc, one-mul}
use native.Mathlib.Numerals.{one-add}
use native.Mathlib.Omega.{arith}
use mathlib.Core.Path.{◌≡◌, refl, sym, ap, subst, ◌∙◌}
use mathlib.Core.Bool.{Bool, true, false, cond}
use mathlib.Core.Logic.{⊎_elim}
use lib.Bits.{bit_and, bit_or, block_half, block_odd, and_mask, and_comm, or_comm, or_add_and}
use lib.Count.{ones, ones_cat}
use lib.Dec.{T, ltb, eqb}
use lib.Pow.{pow_pos, pow-lt, split, high, shr_lt, mod-pow-add, ones_lt, ones_split, lt_of_le_ones}
use borrow.Author.Tests.{ltb-true, ltb-false, eqb-true, eqb-false}
use Rattle.semantics.proofs.Laws.Tests.{is_true, along}
use Rattle.mask.specs.Code.{has, Within, Apart}
use Rattle.mask.proofs.Laws.Member.{has-zero, within_has, apart-has}
use Rattle.mask.proofs.Laws.Part.{within-le, apart-or-not}
use Rattle.mask.proofs.Laws.Single.{pow-single}
use Rattle.mask.proofs.Laws.Count.{ones-or}

-- below k, the positions of a * 2 ^ k + r are those of r
has-below : (a k r i : ℕ) → i < k → has (a * 2 ^ k + r) i ≡ has r i
unfolding has
has-below a zero r i h = absurd (not-suc-le-zero h)
has-below a (suc k) r zero h = ap (λ (x : ℕ). eqb x 1) (block_odd a k r)
has-below a (suc k) r (suc i) h = ap (λ (x : ℕ). has x i) (block_half a k r) ∙ has-below a k (r / 2) i (le_of_suc-le-suc h)

half_lt : (k r : ℕ) → r < 2 ^ suc k → r / 2 < 2 ^ k
half_lt k r h = shr_lt k 1 (subst (λ (x : ℕ). r < 2 ^ x) (omega arith) h)

-- at k stands the lowest digit of a
has-at : (a k r : ℕ) → r < 2 ^ k → has (a * 2 ^ k + r) k ≡ eqb (a % 2) 1
unfolding has
has-at a zero r h = let e : a * 1 + r ≡ a = omega arith in ap (λ (x : ℕ). eqb (x % 2) 1) e
has-at a (suc k) r h = ap (λ (x : ℕ). has x k) (block_half a k r) ∙ has-at a k (r / 2) (half_lt k r h)

pub has-add-below : (k r i : ℕ) → i < k → has (2 ^ k + r) i ≡ has r i
has-add-below k r i h = ap (λ (x : ℕ). has (x + r) i) (sym (one-mul (2 ^ k))) ∙ has-below 1 k r i h

pub has-add-at : (k r : ℕ) → r < 2 ^ k → has (2 ^ k + r) k ≡ true
has-add-at k r h = ap (λ (x : ℕ). has (x + r) k) (sym (one-mul (2 ^ k))) ∙ has-at 1 k r h

pub has-beyond : (k r : ℕ) → r < 2 ^ k → has r k ≡ false
has-beyond k r h = let e : r ≡ 0 * 2 ^ k + r = omega arith in ap (λ (x : ℕ). has x k) e ∙ has-at 0 k r h

-- one digit more of a number
has-digit : (x k : ℕ) → has x k ≡ eqb (x / 2 ^ k % 2) 1
has-digit x k = ap (λ (z : ℕ). has z k) (sym (split x k)) ∙ has-at (x / 2 ^ k) k (x % 2 ^ k) (mod-lt x (pow_pos k))

digit_value : (p d : ℕ) → d < 2 → d * p ≡ cond (eqb d 1) p 0
digit_value p zero h = omega arith
digit_value p (suc zero) h = omega arith
digit_value p (suc (suc d)) h = absurd (omega arith)

pub mod-suc : (x k : ℕ) → x % 2 ^ suc k ≡ cond (has x k) (2 ^ k) 0 + x % 2 ^ k
mod-suc x k =
    ap (λ (z : ℕ). x % 2 ^ z) (sym (one-add k)) ∙ mod-pow-add x 1 k
    ∙ ap (λ (z : ℕ). z + x % 2 ^ k)
    (digit_value (2 ^ k) (x / 2 ^ k % 2) (mod-lt (x / 2 ^ k) (zero-lt-suc 1)) ∙ ap (λ (b : Bool). cond b (2 ^ k) 0) (sym (has-digit x k)))

-- and so one digit more is counted
ones-few : (ones 0 ≡ 0) × (ones 1 ≡ 1)
unfolding ones
ones-few = (refl, refl)

ones_above : (b : Bool) (k r : ℕ) → r < 2 ^ k → ones (cond b (2 ^ k) 0 + r) ≡ cond b 1 0 + ones r
ones_above true k r h =
    ap (λ (x : ℕ). ones (x + r)) (sym (one-mul (2 ^ k))) ∙ ones_cat k 1 r h ∙ ap (λ (x : ℕ). x + ones r) ones-few.1
ones_above false k r h = let e : 0 + r ≡ r = omega arith in ap ones e ∙ omega arith

pub ones-suc : (x k : ℕ) → ones (x % 2 ^ suc k) ≡ cond (has x k) 1 0 + ones (x % 2 ^ k)
ones-suc x k = ap ones (mod-suc x k) ∙ ones_above (has x k) k (x % 2 ^ k) (mod-lt x (pow_pos k))

-- the mask of the place k alone
pow-has : (k : ℕ) → T (has (2 ^ k) k)
pow-has k = let e : 2 ^ k + 0 ≡ 2 ^ k = omega arith in along (sym (has-add-at k 0 (pow_pos k)) ∙ ap (λ (x : ℕ). has x k) e) tt

pub has-pow : (k i : ℕ) → has (2 ^ k) i ≡ eqb i k
has-pow k i = go (eqb i k) refl (ltb i k) refl
  where
    e : 2 ^ k + 0 ≡ 2 ^ k
    e = omega arith

    go : (a : Bool) → eqb i k ≡ a → (b : Bool) → ltb i k ≡ b → has (2 ^ k) i ≡ a
    go true p b q = ap (has (2 ^ k)) (eqb-true i k p) ∙ is_true (has (2 ^ k) k) (pow-has k)
    go false p true q = ap (λ (x : ℕ). has x i) (sym e) ∙ has-add-below k 0 i (ltb-true i k q) ∙ has-zero i
    go false p false q = has-beyond i (2 ^ k) (pow-lt (omega (arith, ltb-false i k q, eqb-false i k p)))

pub within-pow : (k x : ℕ) → Within (2 ^ k) x → T (has x k)
within-pow k x w = within_has (2 ^ k) x w k (pow-has k)

pub pow-within : (k x : ℕ) → T (has x k) → Within (2 ^ k) x
pow-within k x t = (pow-single k).whole x (λ a. apart-has (2 ^ k) x a k (pow-has k) t)

pub pow_apart : (k x : ℕ) → (T (has x k) → ⊥) → Apart (2 ^ k) x
pow_apart k x n = ⊎_elim (λ a. a) (λ f. absurd (n (within-pow k x ((pow-single k).whole x f)))) (apart-or-not (2 ^ k) x)

-- that place put in: one more is counted where it was not there
ones-pow : (k : ℕ) → ones (2 ^ k) ≡ 1
ones-pow k = let e : 2 ^ k + 0 ≡ 2 ^ k = omega arith in ap ones (sym e) ∙ ones_above true k 0 (pow_pos k) ∙ omega (arith, ones-few.0)

pub ones-with : (m k : ℕ) → ones (bit_or m (2 ^ k)) ≡ ones m + cond (has m k) 0 1
ones-with m k = go (has m k) refl
  where
    go : (b : Bool) → has m k ≡ b → ones (bit_or m (2 ^ k)) ≡ ones m + cond b 0 1
    go true e =
        let in-it : bit_and m (2 ^ k) ≡ 2 ^ k = and_comm m (2 ^ k) ∙ pow-within k m (along (sym e) tt) in
        let same : bit_or m (2 ^ k) ≡ m = omega (arith, or_add_and m (2 ^ k), in-it) in
        omega (arith, ap ones same)
    go false e = ap ones (or_comm m (2 ^ k)) ∙ omega (arith, ones-or (2 ^ k) m (pow_apart k m (λ t. along e t)), ones-pow k)

-- the first k places: a part of them is a number below 2 ^ k
pub within-ones : (k x : ℕ) → Within x (2 ^ k - 1) → x < 2 ^ k
within-ones k x w = lt_of_le_ones k (within-le x (2 ^ k - 1) w)

pub ones-within : (k x : ℕ) → x < 2 ^ k → Within x (2 ^ k - 1)
ones-within k x h = and_mask x k ∙ mod-eq_of_lt h

-- shifts in a word of 64 digits: one, all digits, and a digit brought to the lowest place
pub one_shifted : (i : ℕ) → i < 64 → 1 * 2 ^ i % 2 ^ 64 ≡ 2 ^ i
one_shifted i h = ap (λ (x : ℕ). x % 2 ^ 64) (one-mul (2 ^ i)) ∙ mod-eq_of_lt (pow-lt h)

pub ones-shifted : (n : ℕ) → n ≤ 64 → (2 ^ 64 - 1) / 2 ^ (64 - n) ≡ 2 ^ n - 1
ones-shifted n h =
    let e : 64 ≡ n + (64 - n) = omega arith in
    ap (λ (k : ℕ). (2 ^ k - 1) / 2 ^ (64 - n)) e ∙ ap (λ (x : ℕ). x / 2 ^ (64 - n)) (ones_split n (64 - n)) ∙ high (2 ^ n - 1) (64 - n) (ones_lt (64 - n))

pub digit-shifted : (m i : ℕ) → eqb (bit_and (m / 2 ^ i) 1) 1 ≡ has m i
digit-shifted m i = ap (λ (x : ℕ). eqb x 1) (and_mask (m / 2 ^ i) 1) ∙ sym (has-digit m i)
