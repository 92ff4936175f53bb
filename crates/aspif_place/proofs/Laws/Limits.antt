-- Laws of places within a form's limits: each literal that occurs in a program of the form has one.
-- In order: the plain form's limits; places of the literals that occur; they are the words'.
-- Assumes nothing.
use Prim.Native.Nat.{◌*◌}
use native.Mathlib.Omega.{arith}
use lib.Dec.{T, ltb, lt→ltb}
use Rattle.literal.specs.declared.Limits.{Limits}
use Rattle.literal.specs.Literal.{takes}
use Rattle.literal.specs.Limits.{plain}
use Rattle.semantics.specs.Set.{each_of}
use Rattle.semantics.specs.Rule.{Program}
use Rattle.semantics.proofs.Laws.Tests.{Each, each-intro, all-mem, all-intro}
use Rattle.aspif_meaning.specs.Numbering.{occurring}
use Rattle.aspif_place.specs.Code.{words, place, Placeable}
use Rattle.aspif_place.proofs.Laws.Place.{HasPlace, placed, place-most}

-- the plain form's limits
pub plain-placeable : Placeable plain
unfolding plain
plain-placeable = record { atoms = omega arith; tags = omega arith; numbers = omega arith }

module _ (F : Limits) (w : Placeable F) (p : Program) (taken : T (each_of (takes F) (occurring p))) where
  -- each literal that occurs has a place
  pub literals-placed-in : Each HasPlace (occurring p)
  literals-placed-in = each-intro HasPlace (occurring p) (λ l m. placed F w l (all-mem (takes F) taken m))

  -- and it is one of the words'
  pub placed_below : T (each_of (λ l. ltb (place l) (64 * words)) (occurring p))
  placed_below =
      all-intro (λ l. ltb (place l) (64 * words)) (occurring p)
      (λ l m. lt→ltb (place l) (64 * words) (place-most l (placed F w l (all-mem (takes F) taken m))))
