-- From any mask with a property to the first: bounds around the mask at hand, whose first mask is the first of all.
-- In order: the start; the highest open position absent, where a mask without it is at hand; present, where there is none
-- without it; the end.
-- Assumes nothing.
use Prim.Native.Nat.{ℕ}
use mathlib.Core.Path.{◌≡◌, refl, sym, subst}
use lib.Bits.{bit_and, bit_or, bit_xor}
use Rattle.mask.specs.Code.{Within, Highest}
use Rattle.mask.proofs.Laws.Part.{within-antisym, within-xor, apart-sym}
use Rattle.check_search.specs.Code.{Never, Least, Candidate}
use Rattle.check_search.proofs.Laws.Open.{open-within, tries-inside}
use Rattle.check_search.proofs.Laws.First.{least_leaf, least_absent, least-present, present-at-hand}

-- x is between the bounds and has P, and of the masks that have it the first is between them
pub record Lowered (P : ℕ → Type 0) (whole must may x : ℕ) : Type 0 where
  pub inside : Within must may
  pub at-hand : Candidate P must may x
  pub leads : (m : ℕ) → Least (Candidate P must may) m → Least (Candidate P 0 whole) m

module _ {P : ℕ → Type 0} where
  pub lowered-start : {whole x : ℕ} → Candidate P 0 whole x → Lowered P whole 0 whole x
  lowered-start d = record { inside = refl; at-hand = d; leads = λ m f. f }

  module _ {whole must may x b : ℕ} (h : Highest (bit_xor may must) b) (v : Lowered P whole must may x) where
    -- the mask at hand does without the position
    pub lacks : bit_and x b ≡ 0 → Candidate P must (bit_xor may b) x
    lacks e =
        record {
          between = record {
            above = v.at-hand.between.above;
            below = within-xor x may b (open-within must may b v.inside h.position) v.at-hand.between.below (apart-sym x b e);
          };
          has = v.at-hand.has;
        }

    pub lowered-absent : {z : ℕ} → Candidate P must (bit_xor may b) z → Lowered P whole must (bit_xor may b) z
    lowered-absent d =
        record {
          inside = (tries-inside must may b v.inside h.position).0;
          at-hand = d;
          leads = λ m f. v.leads m (least_absent v.inside h f);
        }

    pub lowered-present : Never (Candidate P must (bit_xor may b)) → Lowered P whole (bit_or must b) may x
    lowered-present n =
        record {
          inside = (tries-inside must may b v.inside h.position).1;
          at-hand = present-at-hand v.inside h.position n v.at-hand;
          leads = λ m f. v.leads m (least-present v.inside h.position n f);
        }

  pub lowered-end : {whole must may x : ℕ} → must ≡ may → Lowered P whole must may x → Least (Candidate P 0 whole) must
  lowered-end {whole} {must} {may} {x} e v = v.leads must (least_leaf e (subst P same v.at-hand.has))
    where
      same : x ≡ must
      same = within-antisym x must (subst (Within x) (sym e) v.at-hand.between.below) v.at-hand.between.above
