-- What the places of a row have, one behind the other, of which some are left.
-- In order: what a place has told by an equation: measured, written; none left; the first and those behind it; what was measured; what was
-- written.
-- Assumes nothing.
use Prim.Native.Nat.{ℕ, suc, ◌+◌, ◌*◌, ◌-◌, ◌≤◌, ◌<◌}
use native.Mathlib.Omega.{arith}
use mathlib.Core.Path.{◌≡◌, sym, ap, subst}
use mathlib.Core.List.{List, [], ◌++◌}
use lib.ListN.{length, length-append}
use Rattle.buffer.specs.Write.{Wrote}
use Rattle.buffer.proofs.Laws.Write.{write-nil}
use Rattle.buffer.proofs.Laws.Writing.{Writing, writing_start, writing-next, writing-end}
use Rattle.aspif_place.specs.Code.{row_places}
use Rattle.aspif_rule.specs.Code.{Long}
use Rattle.aspif_names.specs.Code.{places_from}

module _ {bs cs : List ℕ} (e : cs ≡ bs) where
  pub long-by : {r most : ℕ} → Long r bs most → Long r cs most
  long-by w = record { long = omega (arith, w.long, ap length e); short = w.short }

  pub wrote_by : {d f : List ℕ} {at r : ℕ} → Wrote d f at bs r → Wrote d f at cs r
  wrote_by {d} {f} {at} {r} w = subst (λ (x : List ℕ). Wrote d f at x r) (sym e) w

  pub room_by : (at room : ℕ) → at + length cs ≤ room → at + length bs ≤ room
  room_by at room h = omega (arith, ap length e)

-- where a place has nothing
module _ {cs : List ℕ} (e : cs ≡ []) where
  pub long-none : {most : ℕ} → Long 0 cs most
  long-none = record { long = omega (arith, ap length e); short = omega arith }

  pub wrote_none : (d : List ℕ) (at : ℕ) → Wrote d d at cs at
  wrote_none d at = wrote_by e (record { bytes = sym (write-nil d at); next = omega arith })

-- what the places from a on have: none, or the first's and those behind it
abbrev rest_from : (ℕ → List ℕ) → ℕ → List ℕ
rest_from f a = places_from f a (row_places - a)

rest-none : (f : ℕ → List ℕ) (a : ℕ) → row_places ≤ a → rest_from f a ≡ []
unfolding places_from
rest-none f a h = let none : row_places - a ≡ 0 = omega arith in ap (places_from f a) none

rest-first : (f : ℕ → List ℕ) (a : ℕ) → a < row_places → rest_from f a ≡ f a ++ rest_from f (a + 1)
unfolding places_from
rest-first f a h =
    let more : row_places - a ≡ suc (row_places - (a + 1)) = omega arith in
    ap (places_from f a) more

-- of what all places have, so much was measured of those below a
pub record Measuring (f : ℕ → List ℕ) (all : List ℕ) (a total : ℕ) : Type 0 where
  pub short : total ≤ 32 * a
  pub sum : total + length (rest_from f a) ≡ length all

pub measuring-start : (f : ℕ → List ℕ) (all : List ℕ) → all ≡ places_from f 0 row_places → Measuring f all 0 0
measuring-start f all e = record { short = omega arith; sum = omega (arith, ap length e) }

module _ {f : ℕ → List ℕ} {all : List ℕ} {a total : ℕ} (m : Measuring f all a total) where
  pub measuring-next : a < row_places → (r : ℕ) → Long r (f a) 32 → Measuring f all (a + 1) (total + r)
  measuring-next more r long =
      record {
        short = omega (arith, m.short, long.short);
        sum = omega (arith, m.sum, long.long, ap length (rest-first f a more), length-append (f a) (rest_from f (a + 1)));
      }

  pub measuring-end : a ≡ row_places → Long total all (32 * row_places)
  measuring-end end =
      record { long = omega (arith, m.sum, ap length (rest-none f a (omega arith))); short = omega (arith, m.short) }

-- what all places have is to be written from `to` on, and what those from a on have is left to be written from `next` on
pub record Filling (f : ℕ → List ℕ) (all out₀ out : List ℕ) (to a next : ℕ) : Type 0 where
  pub writing : Writing out₀ out to next all (rest_from f a)

pub filling-start : (f : ℕ → List ℕ) (all out : List ℕ) (to : ℕ) → all ≡ places_from f 0 row_places → to + length all ≤ length out
    → Filling f all out out to 0 to
filling-start f all out to e h = record { writing = subst (Writing out out to to all) e (writing_start out to all h) }

module _ {f : ℕ → List ℕ} {all out₀ out : List ℕ} {to a next : ℕ} (w : Filling f all out₀ out to a next) where
  module _ (more : a < row_places) where
    split : Writing out₀ out to next all (f a ++ rest_from f (a + 1))
    split = subst (Writing out₀ out to next all) (rest-first f a more) w.writing

    -- there is room for what the next place has
    pub filling-room : next + length (f a) ≤ length out
    filling-room = omega (arith, split.fits, length-append (f a) (rest_from f (a + 1)))

    pub filling-next : {e : List ℕ} {r : ℕ} → Wrote out e next (f a) r → Filling f all out₀ e to (a + 1) r
    filling-next v = record { writing = writing-next (f a) (rest_from f (a + 1)) split v }

  pub filling-end : a ≡ row_places → Wrote out₀ out to all next
  filling-end end = writing-end (subst (Writing out₀ out to next all) (rest-none f a (omega arith)) w.writing)
