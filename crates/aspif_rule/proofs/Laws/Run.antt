-- A run of literals, of which some are left: the next one's place and number, and those behind it.
-- In order: what is left; the next place, and what is left then; numbers; fields; what was measured.
-- Assumes nothing.
use Prim.Native.Nat.{ℕ, ◌+◌, ◌*◌, ◌-◌, ◌≤◌, ◌<◌}
use native.Mathlib.Omega.{arith}
use mathlib.Core.Path.{◌≡◌, sym, ◌∙◌, ap, subst}
use mathlib.Core.Bool.{Bool, false}
use mathlib.Core.List.{List, [], ◌∷◌, ◌++◌, map}
use lib.Dec.{T, ltb, ltb→lt}
use lib.ListN.{length, drop, length-append}
use Rattle.semantics.specs.Set.{each_of}
use Rattle.semantics.proofs.Laws.Tests.{first, second}
use Rattle.aspif_text.specs.Text.{field, fields}
use Rattle.aspif_place.specs.Code.{words, place_at, number_at_place}
use Rattle.aspif_number.specs.Code.{places_at, Room}
use Rattle.aspif_number.proofs.Laws.Place.{places-first, places-none}
use Rattle.aspif_rule.specs.Code.{numbers_at, Long}

-- `left` literals from `at` on are left, each of which has a place
pub record Left (s : List ℕ) (at left : ℕ) : Type 0 where
  pub fits : at + 5 * left ≤ length s
  pub room : Room words (places_at s at left)

-- no number is left
pub numbers-none : (bits s : List ℕ) (at n : ℕ) → n ≤ 0 → numbers_at bits s at n ≡ []
unfolding numbers_at
numbers-none bits s at n h = ap (map (number_at_place bits)) (places-none s at n h)

module _ {s : List ℕ} {at left : ℕ} (w : Left s at left) (more : 0 < left) where
  rooms : T (each_of (λ k. ltb k (64 * words)) (place_at (drop at s) ∷ places_at s (at + 5) (left - 1)))
  rooms = subst (Room words) (places-first s at left more) w.room

  -- the next literal's place
  pub left-place : place_at (drop at s) < 64 * words
  left-place =
      let k = place_at (drop at s) in
      ltb→lt k (64 * words) (first (ltb k (64 * words)) (each_of (λ j. ltb j (64 * words)) (places_at s (at + 5) (left - 1))) rooms)

  -- those behind it
  pub left-next : Left s (at + 5) (left - 1)
  left-next =
      let k = place_at (drop at s) in
      record {
        fits = omega (arith, w.fits);
        room = second (ltb k (64 * words)) (each_of (λ j. ltb j (64 * words)) (places_at s (at + 5) (left - 1))) rooms;
      }

-- the next literal's number, and those behind it; its field, and theirs
module _ (s bits : List ℕ) (at left : ℕ) (more : 0 < left) where
  numbers-first : numbers_at bits s at left ≡ number_at_place bits (place_at (drop at s)) ∷ numbers_at bits s (at + 5) (left - 1)
  unfolding numbers_at
  numbers-first = ap (map (number_at_place bits)) (places-first s at left more)

  pub fields-first : (b : Bool) (i n : ℕ) → i ≡ place_at (drop at s) → n ≡ number_at_place bits i
      → fields b (numbers_at bits s at left) ≡ field b n ++ fields b (numbers_at bits s (at + 5) (left - 1))
  unfolding fields
  fields-first b i n place number =
      ap (fields b) numbers-first
      ∙ ap (λ (k : ℕ). field b k ++ fields b (numbers_at bits s (at + 5) (left - 1))) (ap (number_at_place bits) (sym place) ∙ sym number)

-- what was measured of a run, and what is left to measure
pub record Measuring (bits s : List ℕ) (from count at left total : ℕ) : Type 0 where
  pub rest : Left s at left
  pub few : left ≤ count
  pub short : total + 11 * left ≤ 11 * count
  pub sum : total + length (fields false (numbers_at bits s at left)) ≡ length (fields false (numbers_at bits s from count))

pub measuring-start : (bits s : List ℕ) (from count : ℕ) → from + 5 * count ≤ length s → Room words (places_at s from count)
    → Measuring bits s from count from count 0
measuring-start bits s from count fits room =
    record { rest = record { fits = fits; room = room }; few = omega arith; short = omega arith; sum = omega arith }

pub measuring-next : {bits s : List ℕ} {from count at left total : ℕ} (m : Measuring bits s from count at left total) → 0 < left → (i n r : ℕ)
    → i ≡ place_at (drop at s) → n ≡ number_at_place bits i → Long r (field false n) 11 → Measuring bits s from count (at + 5) (left - 1) (total + r)
measuring-next {bits} {s} {at = at} {left} m more i n r place number long =
    record {
      rest = left-next m.rest more;
      few = omega (arith, m.few);
      short = omega (arith, m.short, long.short);
      sum =
          omega (
            arith,
            m.sum,
            long.long,
            ap length (fields-first s bits at left more false i n place number),
            length-append (field false n) (fields false (numbers_at bits s (at + 5) (left - 1))),
          );
    }

pub measuring-end : {bits s : List ℕ} {from count at left total : ℕ} → Measuring bits s from count at left total → left ≤ 0
    → Long total (fields false (numbers_at bits s from count)) (11 * count)
unfolding fields
measuring-end {bits} {s} {from} {count} {at} {left} {total} m none =
    record {
      long = omega (arith, m.sum, ap (λ (ns : List ℕ). length (fields false ns)) (numbers-none bits s at left none));
      short = omega (arith, m.short);
    }

-- the same told by other numbers
pub measuring-told : {bits s : List ℕ} {from count at left total : ℕ} → Measuring bits s from count at left total
    → (i m : ℕ) → i ≡ at → m ≡ left → Measuring bits s from count i m total
measuring-told w i m p q = rw (p, q) w
