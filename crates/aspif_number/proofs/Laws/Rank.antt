-- Marks counted word by word: the marked places below a place are those of the words before its own, and those of its word below it.
-- In order: a place in a word; places of one word; a whole word; no more marks than places; tallies; sums of them; a place's number.
-- Assumes nothing.
use Prim.Native.Nat.{ℕ, zero, suc, ◌+◌, ◌-◌, ◌*◌, ◌/◌, ◌%◌, ◌^◌, ◌≤◌, ◌<◌}
use native.Mathlib.Nat.{mod-eq_of_lt}
use native.Mathlib.Omega.{arith}
use mathlib.Core.Path.{◌≡◌, refl, sym, ap, ap₂, ◌∙◌}
use mathlib.Core.Bool.{Bool, true, false, cond}
use mathlib.Core.List.{List}
use lib.Bits.{bit_and, and_mask}
use lib.Count.{ones, ones-le}
use lib.ListN.{length, get_or}
use Rattle.mask.specs.Code.{has}
use Rattle.mask.proofs.Laws.Place.{ones-suc}
use Rattle.aspif_place.specs.Code.{marked, marked_below}
use Rattle.aspif_number.specs.Code.{Empty, Tallied, sum_of, Sums, Summed}

ones-zero : ones 0 ≡ 0
unfolding ones
ones-zero = refl

-- a place of a word
marked-in : (bits : List ℕ) (w k : ℕ) → k < 64 → marked bits (64 * w + k) ≡ has (get_or bits w 0) k
unfolding marked
marked-in bits w k h =
    let q : (64 * w + k) / 64 ≡ w = omega arith in
    let r : (64 * w + k) % 64 ≡ k = omega arith in
    ap₂ (λ (x y : ℕ). has (get_or bits x 0) y) q r

-- one place more
below_suc : (bits : List ℕ) (i : ℕ) → marked_below bits (i + 1) ≡ cond (marked bits i) 1 0 + marked_below bits i
unfolding marked_below
below_suc bits i = let e : i + 1 ≡ suc i = omega arith in ap (marked_below bits) e

-- no place is below the first
below_none : (bits : List ℕ) → marked_below bits 0 ≡ 0
unfolding marked_below
below_none bits = refl

-- the places of one word: k of them
pub rank-in : (bits : List ℕ) (w k : ℕ) → k ≤ 64 → marked_below bits (64 * w + k) ≡ marked_below bits (64 * w) + ones (get_or bits w 0 % 2 ^ k)
rank-in bits w zero h =
    let e : 64 * w + 0 ≡ 64 * w = omega arith in
    let z : get_or bits w 0 % 2 ^ 0 ≡ 0 = omega arith in
    omega (arith, ap (marked_below bits) e, ap ones z, ones-zero)
rank-in bits w (suc k) h =
    let e : 64 * w + suc k ≡ 64 * w + k + 1 = omega arith in
    omega (
      arith,
      ap (marked_below bits) e,
      below_suc bits (64 * w + k),
      ap {B = ℕ} (λ (b : Bool). cond b 1 0) (marked-in bits w k (omega arith)),
      ones-suc (get_or bits w 0) k,
      rank-in bits w k (omega arith),
    )

-- all of them
pub rank-word : (bits : List ℕ) (w : ℕ) → get_or bits w 0 < 2 ^ 64 → marked_below bits (64 * (w + 1)) ≡ marked_below bits (64 * w) + ones (get_or bits w 0)
rank-word bits w h =
    let e : 64 * (w + 1) ≡ 64 * w + 64 = omega arith in
    ap (marked_below bits) e ∙ rank-in bits w 64 (omega arith) ∙ ap (λ (x : ℕ). marked_below bits (64 * w) + ones x) (mod-eq_of_lt h)

-- no place counts twice
pub below-le : (bits : List ℕ) (i : ℕ) → marked_below bits i ≤ i
unfolding marked_below
below-le bits zero = omega arith
below-le bits (suc i) = go (marked bits i) (below-le bits i)
  where
    go : (b : Bool) → marked_below bits i ≤ i → cond b 1 0 + marked_below bits i ≤ suc i
    go true h = omega arith
    go false h = omega arith

-- where nothing is marked and nothing counted, the counts are right
pub empty-tallied : (bits counts : List ℕ) → length counts ≡ length bits → Empty bits → Empty counts → Tallied bits counts
empty-tallied bits counts same none zero-counts =
    record { same = same; tally = λ w. zero-counts w ∙ sym (ap ones (none w) ∙ ones-zero) }

-- a word's tally is at most its places
pub tally-low : {bits counts : List ℕ} → Tallied bits counts → (w : ℕ) → get_or bits w 0 < 2 ^ 64 → get_or counts w 0 ≤ 64
tally-low {bits} t w h = omega (arith, t.tally w, ones-le 64 (get_or bits w 0) h)

-- the sum of the words' tallies is the count of the marks below
module _ (bits counts : List ℕ) (t : Tallied bits counts) (fits : (w : ℕ) → get_or bits w 0 < 2 ^ 64) where
  sum_below : (w : ℕ) → sum_of counts w ≡ marked_below bits (64 * w)
  unfolding sum_of
  sum_below zero = sym (below_none bits)
  sum_below (suc w) =
      let e : w + 1 ≡ suc w = omega arith in
      omega (arith, sum_below w, t.tally w, rank-word bits w (fits w), ap (λ (x : ℕ). marked_below bits (64 * x)) e)

  pub sums-summed : (sums : List ℕ) → Sums counts sums → Summed bits sums
  sums-summed sums s = record { same = s.same ∙ t.same; sum = λ w h. s.sum w (omega (arith, t.same)) ∙ sum_below w }

-- the marks below a place: its word's count, and the word's marks below it
pub number-below : (bits counts : List ℕ) → Summed bits counts → (i : ℕ) → i < 64 * length bits → (m : ℕ) → m ≡ 2 ^ (i % 64)
    → get_or counts (i / 64) 0 + ones (bit_and (get_or bits (i / 64) 0) (m - 1)) ≡ marked_below bits i
number-below bits counts s i h m e =
    let word = get_or bits (i / 64) 0 in
    let split : 64 * (i / 64) + i % 64 ≡ i = omega arith in
    let low = ap (λ (x : ℕ). ones (bit_and word (x - 1))) e ∙ ap ones (and_mask word (i % 64)) in
    omega (arith, s.sum (i / 64) (omega arith), rank-in bits (i / 64) (i % 64) (omega arith), ap (marked_below bits) split, low)
