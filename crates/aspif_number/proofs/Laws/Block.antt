-- The numbers of several rules' literals, record by record.
-- In order: one record more; how many numbers there are; where the loop is; its start; the next record; with its numbers; the end.
-- Assumes nothing.
use Prim.Native.Nat.{ℕ, zero, suc, ◌+◌, ◌*◌, ◌≤◌, ◌<◌}
use native.Mathlib.Omega.{arith}
use mathlib.Core.Path.{◌≡◌, refl, sym, ap, subst, ◌∙◌}
use mathlib.Core.List.{List, ◌++◌, map}
use lib.ListN.{length, drop, length-append, length-map}
use Rattle.record_walk.specs.Code.{record_size}
use Rattle.aspif_place.specs.Code.{number_at_place}
use Rattle.aspif_number.specs.Code.{places_at, literal_count, records_size, record_part, records_literals, Records, numbers_of, Front, Gathered, Gathers, Finished}
use Rattle.aspif_number.proofs.Laws.Place.{length-places}
use Rattle.aspif_number.proofs.Laws.Finish.{finished-front}

-- the numbers of the literals of the record that starts a part
abbrev record_numbers : List ℕ → List ℕ → List ℕ
record_numbers bits t = map (number_at_place bits) (places_at t 7 (literal_count t))

-- one record more
module _ (bits t : List ℕ) (n : ℕ) where
  size-next : records_size t (n + 1) ≡ records_size t n + record_size (record_part t n)
  unfolding records_size
  size-next = let e : n + 1 ≡ suc n = omega arith in ap (records_size t) e

  numbers-next : numbers_of bits t (n + 1) ≡ numbers_of bits t n ++ record_numbers bits (record_part t n)
  unfolding numbers_of
  numbers-next = let e : n + 1 ≡ suc n = omega arith in ap (numbers_of bits t) e

-- there are as many numbers as literals, and these are few
length_run : (bits t : List ℕ) → length (record_numbers bits t) ≡ literal_count t
length_run bits t = length-map (places_at t 7 (literal_count t)) (number_at_place bits) ∙ length-places t 7 (literal_count t)

pub length-numbers : (bits t : List ℕ) (n : ℕ) → length (numbers_of bits t n) ≡ records_literals t n
unfolding numbers_of records_literals
length-numbers bits t zero = refl
length-numbers bits t (suc n) =
    let part = record_part t n in
    omega (arith, length-append (numbers_of bits t n) (record_numbers bits part), length-numbers bits t n, length_run bits part)

pub literals-few : {t : List ℕ} {rules : ℕ} → Records t rules → (n : ℕ) → n ≤ rules → records_literals t n ≤ 64 * n
unfolding records_literals
literals-few w zero h = omega arith
literals-few w (suc n) h = omega (arith, literals-few w n (omega arith), w.few n (omega arith))

-- arrays d and e became f and g: what the k numbers of the first n records are made of, which end at `at`, is gathered
pub record Numbering (t bits : List ℕ) (rules : ℕ) (d e f g : List ℕ) (at k n : ℕ) : Type 0 where
  pub same-masks : length f ≡ length d
  pub same_numbers : length g ≡ length e
  pub within : n ≤ rules
  pub ends : at ≡ records_size t n
  pub many : k ≡ length (numbers_of bits t n)
  pub gathered : Gathered f g (numbers_of bits t n)

pub numbering_start : (t bits : List ℕ) (rules : ℕ) (d e : List ℕ) → Numbering t bits rules d e d e 0 0 0
unfolding records_size numbers_of
numbering_start t bits rules d e = record {
  same-masks = refl;
  same_numbers = refl;
  within = omega arith;
  ends = refl;
  many = refl;
  gathered = record { sum = λ k h. absurd (omega arith); low = λ k h. absurd (omega arith) };
}

module _ {t bits d e f g : List ℕ} {rules at k n : ℕ} (b : Numbering t bits rules d e f g at k n) (w : Records t rules) where
  module _ (h : n < rules) (here : List ℕ) (told : here ≡ drop at t) where
    here-part : here ≡ record_part t n
    here-part = told ∙ ap (λ (i : ℕ). drop i t) b.ends

    -- there is room for its numbers
    pub numbering-few : k + literal_count here ≤ 64 * rules
    numbering-few =
        let few = subst (λ (x : List ℕ). literal_count x ≤ 64) (sym here-part) (w.few n h) in
        omega (arith, few, b.many, length-numbers bits t n, literals-few w n b.within)

    pub numbering-next : (count : ℕ) → count ≡ literal_count here → (x y : List ℕ) → length x ≡ length f → length y ≡ length g
        → Gathers f g x y k (map (number_at_place bits) (places_at here 7 count)) → (size : ℕ) → size ≡ record_size here
        → Numbering t bits rules d e x y (at + size) (k + count) (n + 1)
    numbering-next count c x y same-x same-y more size s =
        let all = numbers-next bits t n in
        let run = ap (λ (i : ℕ). map (number_at_place bits) (places_at here 7 i)) c ∙ ap (record_numbers bits) here-part in
        record {
          same-masks = same-x ∙ b.same-masks;
          same_numbers = same-y ∙ b.same_numbers;
          within = omega arith;
          ends = omega (arith, b.ends, ap record_size here-part, size-next bits t n);
          many = omega (
            arith,
            b.many,
            ap literal_count here-part,
            ap length all,
            length-append (numbers_of bits t n) (record_numbers bits (record_part t n)),
            length_run bits (record_part t n),
          );
          gathered =
              subst (Gathered x y) (ap (λ (ns : List ℕ). numbers_of bits t n ++ ns) run ∙ sym all)
              (more.behind (numbers_of bits t n) (sym b.many) b.gathered);
        }

  -- the arrays have room for all that is gathered
  pub numbering-room : 64 * rules ≤ length d → 64 * rules ≤ length e → (k ≤ length f) × (k ≤ length g)
  numbering-room in-d in_e =
      let few : k ≤ 64 * rules = omega (arith, b.many, length-numbers bits t n, literals-few w n b.within, b.within) in
      (omega (arith, b.same-masks), omega (arith, b.same_numbers))

  -- at the end it is all of the rules'
  pub numbering-end : rules ≤ n → k ≤ length g → (x : List ℕ) → length x ≡ length g → Finished f g x k
      → (at ≡ records_size t rules) × Front x (numbers_of bits t rules)
  numbering-end h long x same done =
      let e : n ≡ rules = omega (arith, b.within) in
      subst (λ (i : ℕ). (at ≡ records_size t i) × Front x (numbers_of bits t i)) e (b.ends, finished-front b.gathered k b.many (omega arith) done)
