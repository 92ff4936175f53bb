-- A mask between two bounds with a property, any and the first: after propagation; where one mask is left; and by an open
-- position, absent before present, the highest where the first is sought.
-- Assumes nothing.
use Rattle.std.specs.Prelude.{ℕ, Option, Some, None}
use mathlib.Core.Path.{◌≡◌, subst}
use mathlib.Core.Logic.{◌⊎◌, inl, inr, ⊎_elim}
use lib.Bits.{bit_or, bit_xor}
use Rattle.mask.specs.Code.{Within, Position, Highest}
use Rattle.mask.proofs.Laws.Part.{within-refl, within-trans, within-le, within-or-left, xor-within}
use Rattle.check_force.specs.declared.Bounds.{Bounds}
use Rattle.check_force.specs.Code.{Kept}
use Rattle.check_search.specs.Code.{Never, Any, Least, Candidate}
use Rattle.check_search.proofs.Laws.Open.{open-within, absent-before, absent-or-present}

-- narrower bounds
wider : (P : ℕ → Type 0) (must may m y : ℕ) → Within must m → Within y may → (x : ℕ) → Candidate P m y x → Candidate P must may x
wider P must may m y p q x d =
    record {
      between = record { above = within-trans must m x p d.between.above; below = within-trans x y may d.between.below q };
      has = d.has;
    }

-- what is found between the bounds that are left is between the bounds
pub any_left : {P : ℕ → Type 0} {must may : ℕ} {s : Bounds} → Kept P must may s → (r : Option ℕ) → Any (Candidate P s.must s.may) r
    → Any (Candidate P must may) r
any_left v None n = λ x d. n x (record { between = v.keeps x d.between d.has; has = d.has })
any_left {P} {must} {may} {s} v (Some m) d = wider P must may s.must s.may v.more v.less m d

-- one mask is left
pub leaf : {P : ℕ → Type 0} {must may : ℕ} → must ≡ may → P must → Candidate P must may must
leaf {must} o p = record { between = record { above = within-refl must; below = subst (Within must) o (within-refl must) }; has = p }

pub least_leaf : {P : ℕ → Type 0} {must may : ℕ} → must ≡ may → P must → Least (Candidate P must may) must
least_leaf {must} o p = record { passes = leaf o p; least = λ x d. within-le must x d.between.above }

-- by an open position
module _ {P : ℕ → Type 0} {must may b : ℕ} (w : Within must may) (h : Position (bit_xor may must) b) where
  pub absent-wider : (x : ℕ) → Candidate P must (bit_xor may b) x → Candidate P must may x
  absent-wider = wider P must may must (bit_xor may b) (within-refl must) (xor-within may b (open-within must may b w h))

  present-wider : (x : ℕ) → Candidate P (bit_or must b) may x → Candidate P must may x
  present-wider = wider P must may (bit_or must b) may (within-or-left must b) (within-refl may)

  side : (x : ℕ) → Candidate P must may x → Candidate P must (bit_xor may b) x ⊎ Candidate P (bit_or must b) may x
  side x d =
      ⊎_elim (λ p. inl (record { between = p; has = d.has })) (λ p. inr (record { between = p; has = d.has }))
      (absent-or-present must may b w h x d.between)

  -- there is none without it: one at hand has it
  pub present-at-hand : {x : ℕ} → Never (Candidate P must (bit_xor may b)) → Candidate P must may x → Candidate P (bit_or must b) may x
  present-at-hand {x} n d = ⊎_elim (λ p. absurd (n x p)) (λ p. p) (side x d)

  -- there is none without it: the first with it is the first
  pub least-present : {m : ℕ} → Never (Candidate P must (bit_xor may b)) → Least (Candidate P (bit_or must b) may) m → Least (Candidate P must may) m
  least-present {m} n f =
      record { passes = present-wider m f.passes; least = λ x d. ⊎_elim (λ p. absurd (n x p)) (f.least x) (side x d) }

-- by the highest open position: the first of those without it is the first
pub least_absent : {P : ℕ → Type 0} {must may b m : ℕ} → Within must may → Highest (bit_xor may must) b
    → Least (Candidate P must (bit_xor may b)) m → Least (Candidate P must may) m
least_absent {P} {must} {may} {b} {m} w h f =
    record {
      passes = absent-wider w h.position m f.passes;
      least = λ z c. ⊎_elim (f.least z) (λ p. absent-before must may b w h m z f.passes.between p.between) (side w h.position z c);
    }

-- there is none without an open position: what is found with it counts
pub any-present : (P : ℕ → Type 0) (must may b : ℕ) → Within must may → Position (bit_xor may must) b → Never (Candidate P must (bit_xor may b))
    → (r : Option ℕ) → Any (Candidate P (bit_or must b) may) r → Any (Candidate P must may) r
any-present P must may b w h n None f = λ x d. ⊎_elim (n x) (f x) (side w h x d)
any-present P must may b w h n (Some m) f = present-wider w h m f
