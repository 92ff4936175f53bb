-- What numbers are made of, gathered in two arrays one by one.
-- In order: one number more; none, and one run behind another; a loop that gathers a run: where it is, its start, the next place, one place
-- more, its end.
-- Assumes nothing.
use Prim.Native.Nat.{ℕ, ◌+◌, ◌*◌, ◌-◌, ◌/◌, ◌%◌, ◌^◌, ◌≤◌, ◌<◌}
use native.Mathlib.Omega.{arith}
use mathlib.Core.Path.{◌≡◌, refl, sym, ap, subst, ◌∙◌}
use mathlib.Core.Bool.{Bool, true, false}
use mathlib.Core.List.{List, [], ◌∷◌, ◌++◌, map, append_assoc, append-nil}
use lib.Bits.{bit_and}
use lib.Count.{ones}
use lib.Dec.{eqb}
use lib.ListN.{length, get_or, set, drop, length-append, length-set, get_or-append}
use lib.Seq.{get_or-set_same, get_or-set_other, get_or_at}
use borrow.Author.Tests.{eqb-true, eqb-false}
use Rattle.aspif_place.specs.Code.{words, place_at, number_at_place}
use Rattle.aspif_number.specs.Code.{Summed, places_at, Room, Gathered, Gathers}
use Rattle.aspif_number.proofs.Laws.Place.{places-first, places-none}
use Rattle.aspif_number.proofs.Laws.Rank.{below-le, number-below}
use Rattle.aspif_number.proofs.Laws.Run.{room-first, room-behind}

-- one number more, of which m and v are put behind the others
module _ (d e : List ℕ) (k m v x : ℕ) (in-d : k < length d) (in_e : k < length e) (made : v + ones m + 1 ≡ x) (high : x ≤ 64 * words) where
  gathered_next : (ns : List ℕ) → length ns ≡ k → Gathered d e ns → Gathered (set d k m) (set e k v) (ns ++ x ∷ [])
  gathered_next ns long g = record { sum = λ j h. sum-at j h (eqb j k) refl; low = λ j h. low-at j h (eqb j k) refl }
    where
      all : length (ns ++ x ∷ []) ≡ k + 1
      all = omega (arith, length-append ns (x ∷ []))

      own : get_or (ns ++ x ∷ []) k 0 ≡ x
      own = get_or_at ns x [] 0 k long

      sum-at : (j : ℕ) → j < length (ns ++ x ∷ []) → (b : Bool) → eqb j k ≡ b
          → get_or (set e k v) j 0 + ones (get_or (set d k m) j 0) + 1 ≡ get_or (ns ++ x ∷ []) j 0
      sum-at j h true p = rw (eqb-true j k p, get_or-set_same e k v 0 in_e, get_or-set_same d k m 0 in-d) (made ∙ sym own)
      sum-at j h false p =
          let n = eqb-false j k p in
          let below : j < length ns = omega (arith, n, all) in
          rw (get_or-set_other e k j v 0 n, get_or-set_other d k j m 0 n) (g.sum j below ∙ sym (get_or-append ns (x ∷ []) 0 j below))

      low-at : (j : ℕ) → j < length (ns ++ x ∷ []) → (b : Bool) → eqb j k ≡ b → get_or (ns ++ x ∷ []) j 0 ≤ 64 * words
      low-at j h true p = rw (eqb-true j k p) (omega (arith, own))
      low-at j h false p =
          let n = eqb-false j k p in
          let below : j < length ns = omega (arith, n, all) in
          omega (arith, get_or-append ns (x ∷ []) 0 j below, g.low j below)

  gathers-one : Gathers d e (set d k m) (set e k v) k (x ∷ [])
  gathers-one = record { behind = gathered_next }

-- no number; one run behind another
gathers-none : (d e : List ℕ) (to : ℕ) → Gathers d e d e to []
gathers-none d e to = record { behind = λ ns long g. subst (Gathered d e) (sym (append-nil ns)) g }

gathers-more : {a b d e f g xs ys : List ℕ} {to next : ℕ} → Gathers a b d e to xs → to + length xs ≡ next → Gathers d e f g next ys
    → Gathers a b f g to (xs ++ ys)
gathers-more {a} {b} {d} {e} {f} {g} {xs} {ys} p h q = record {
  behind = λ ns long old.
      subst (Gathered f g) (append_assoc ns xs ys) (q.behind (ns ++ xs) (omega (arith, length-append ns xs)) (p.behind ns long old));
}

-- the numbers of places
abbrev numbered : List ℕ → List ℕ → List ℕ
numbered bits ks = map (number_at_place bits) ks

-- arrays d and e became f and g; `left` literals from `at` on are left of the `count` from `from` on, and the next goes to k
pub record Gathering (s bits : List ℕ) (from count to : ℕ) (d e f g : List ℕ) (at left k : ℕ) : Type 0 where
  pub same-masks : length f ≡ length d
  pub same_numbers : length g ≡ length e
  pub fits : at + 5 * left ≤ length s
  pub within : k + left ≡ to + count
  pub room : Room (length bits) (places_at s at left)
  pub rest : (x y : List ℕ) → Gathers f g x y k (numbered bits (places_at s at left)) → Gathers d e x y to (numbered bits (places_at s from count))

module _ {s bits d e f g : List ℕ} {from count to at left k : ℕ} (run : Gathering s bits from count to d e f g at left k) where
  pub gathering-place : 0 < left → place_at (drop at s) < 64 * length bits
  gathering-place h = room-first (length bits) s at left run.room h

  -- one place more, whose word is cut below it
  pub gathering-next : 0 < left → to + count ≤ length d → to + count ≤ length e → length bits ≤ words → (counts : List ℕ) → Summed bits counts
      → (i : ℕ) → i ≡ place_at (drop at s) → (m : ℕ) → m ≡ 2 ^ (i % 64)
      → Gathering s bits from count to d e (set f k (bit_and (get_or bits (i / 64) 0) (m - 1))) (set g k (get_or counts (i / 64) 0)) (at + 5) (left - 1) (k + 1)
  gathering-next h in-d in_e short counts summed i p m q =
      let behind = places_at s (at + 5) (left - 1) in
      let low : i < 64 * length bits = omega (arith, p, gathering-place h) in
      let mask = bit_and (get_or bits (i / 64) 0) (m - 1) in
      let below = get_or counts (i / 64) 0 in
      let made : below + ones mask + 1 ≡ number_at_place bits i = omega (arith, number-below bits counts summed i low m q) in
      let high : number_at_place bits i ≤ 64 * words = omega (arith, below-le bits i) in
      let in_f : k < length f = omega (arith, run.within, run.same-masks) in
      let in_g : k < length g = omega (arith, run.within, run.same_numbers) in
      let one = gathers-one f g k mask below (number_at_place bits i) in_f in_g made high in
      let all = ap (λ (j : ℕ). numbered bits (j ∷ behind)) p ∙ ap (numbered bits) (sym (places-first s at left h)) in
      record {
        same-masks = length-set f k mask ∙ run.same-masks;
        same_numbers = length-set g k below ∙ run.same_numbers;
        fits = omega (arith, run.fits);
        within = omega (arith, run.within);
        room = room-behind (length bits) s at left run.room h;
        rest = λ x y a. run.rest x y (subst (Gathers f g x y k) all (gathers-more one refl a));
      }

  pub gathering-end : left ≤ 0 → Gathers d e f g to (numbered bits (places_at s from count))
  gathering-end h =
      run.rest f g (subst (λ (ks : List ℕ). Gathers f g f g k (numbered bits ks)) (sym (places-none s at left h)) (gathers-none f g k))

-- the same place told by other numbers
pub gathering-told : {s bits d e f g : List ℕ} {from count to at left k : ℕ} → Gathering s bits from count to d e f g at left k
    → (i m j : ℕ) → i ≡ at → m ≡ left → j ≡ k → Gathering s bits from count to d e f g i m j
gathering-told run i m j p q r = rw (p, q, r) run
