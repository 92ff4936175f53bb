-- Narrowing two bounds: nothing done, one narrowing after another, a property that says the same; when nothing changes.
-- Assumes nothing.
use Prim.Native.Nat.{ℕ, ◌-◌, ◌≤◌, ◌<◌}
use native.Mathlib.Omega.{arith}
use mathlib.Core.Path.{◌≡◌, sym, subst, subst₂, ◌∙◌}
use lib.Count.{ones}
use Rattle.mask.specs.Code.{Within}
use Rattle.mask.proofs.Laws.Part.{within-refl, within-trans, within-antisym}
use Rattle.mask.proofs.Laws.Count.{ones-mono, ones-strict}
use Rattle.check_force.specs.declared.Bounds.{Bounds}
use Rattle.check_force.specs.Code.{Dead, Kept, Narrowed, Propagated}

pub kept_same : {P : ℕ → Type 0} {must may : ℕ} → Kept P must may (record { must = must; may = may })
kept_same {must} {may} = record { more = within-refl must; less = within-refl may; inside = λ w. w; keeps = λ x b p. b }

pub kept_then : {P Q R : ℕ → Type 0} {must may : ℕ} {s r : Bounds} → Kept P must may s → Kept Q s.must s.may r
    → ((x : ℕ) → R x → P x) → ((x : ℕ) → R x → Q x) → Kept R must may r
kept_then {must} {may} {s} {r} v w f g =
    record {
      more = within-trans must s.must r.must v.more w.more;
      less = within-trans r.may s.may may w.less v.less;
      inside = λ i. w.inside (v.inside i);
      keeps = λ x b p. w.keeps x (v.keeps x b (f x p)) (g x p);
    }

-- a stronger property
pub kept-as : {P R : ℕ → Type 0} {must may : ℕ} {r : Bounds} → ((x : ℕ) → R x → P x) → Kept P must may r → Kept R must may r
kept-as f v = record { more = v.more; less = v.less; inside = v.inside; keeps = λ x b p. v.keeps x b (f x p) }

-- where nothing is left between narrowed bounds, nothing was between them
pub dead_then : {P Q R : ℕ → Type 0} {must may : ℕ} {s : Bounds} → Kept P must may s → Dead Q s.must s.may
    → ((x : ℕ) → R x → P x) → ((x : ℕ) → R x → Q x) → Dead R must may
dead_then v d f g x b p = d x (v.keeps x b (f x p)) (g x p)

-- bounds that stay as they are, where the one mask that they may leave has P, and Q holds of them
pub unchanged : {P : ℕ → Type 0} {Q : ℕ → ℕ → Type 0} {must may : ℕ} → (must ≡ may → P must) → (Within must may → Q must may)
    → Narrowed P Q must may (record { must = must; may = may })
unchanged h q = record { kept = kept_same; leaf = λ e f g. h g; quiet = λ e f. q }

module _ {P Q R : ℕ → Type 0} {A B C : ℕ → ℕ → Type 0} {must may : ℕ} {s r : Bounds} where
  -- P narrowed the bounds to s, and Q these to r. Where nothing changed in the end, nothing changed at s
  pub then : Narrowed P A must may s → Narrowed Q B s.must s.may r → ((x : ℕ) → R x → P x) → ((x : ℕ) → R x → Q x)
      → ((x : ℕ) → P x → Q x → R x) → (A must may → B must may → C must may) → Narrowed R C must may r
  then v w f g h k = record { kept = kept_then v.kept w.kept f g; leaf = last; quiet = still }
    where
      same : r.must ≡ must → s.must ≡ must
      same d = within-antisym s.must must (subst (Within s.must) d w.kept.more) v.kept.more

      left : r.may ≡ may → s.may ≡ may
      left e = within-antisym s.may may v.kept.less (subst (λ (z : ℕ). Within z s.may) e w.kept.less)

      last : r.must ≡ must → r.may ≡ may → must ≡ may → R must
      last d e o =
          h must (v.leaf (same d) (left e) o)
          (subst Q (same d) (w.leaf (d ∙ sym (same d)) (e ∙ sym (left e)) (same d ∙ o ∙ sym (left e))))

      still : r.must ≡ must → r.may ≡ may → Within must may → C must may
      still d e i =
          k (v.quiet (same d) (left e) i)
          (subst₂ B (same d) (left e) (w.quiet (d ∙ sym (same d)) (e ∙ sym (left e)) (v.kept.inside i)))

-- properties that say the same
pub same-property : {P R : ℕ → Type 0} {A C : ℕ → ℕ → Type 0} {must may : ℕ} {r : Bounds} → ((x : ℕ) → R x → P x)
    → ((x : ℕ) → P x → R x) → (A must may → C must may)
    → Narrowed P A must may r → Narrowed R C must may r
same-property {must} f g k v =
    record { kept = kept-as f v.kept; leaf = λ d e o. g must (v.leaf d e o); quiet = λ d e i. k (v.quiet d e i) }

-- how many literals are open between two bounds
abbrev pub open-count : ℕ → ℕ → ℕ
open-count must may = ones may - ones must

-- the count never grows, and it falls where a bound changes and the bounds do not cross
pub fewer-open : {P : ℕ → Type 0} {must may : ℕ} {r : Bounds} → Kept P must may r → open-count r.must r.may ≤ open-count must may
fewer-open {must} {may} {r} v = omega (arith, ones-mono must r.must v.more, ones-mono r.may may v.less)

module _ {P : ℕ → Type 0} {must may : ℕ} {r : Bounds} (v : Kept P must may r) (w : Within must may) where
  pub less-open-must : (r.must ≡ must → ⊥) → open-count r.must r.may < open-count must may
  less-open-must n =
      omega (
        arith,
        ones-strict must r.must v.more (λ e. n (sym e)),
        ones-mono r.may may v.less,
        ones-mono r.must r.may (v.inside w),
      )

  pub less-open-may : (r.may ≡ may → ⊥) → open-count r.must r.may < open-count must may
  less-open-may n =
      omega (arith, ones-mono must r.must v.more, ones-strict r.may may v.less n, ones-mono r.must r.may (v.inside w))

-- sweeps: one after others; after one that leaves nothing between the bounds, and after one that changes nothing
pub swept : {P : ℕ → Type 0} {must may : ℕ} {s r : Bounds} → Kept P must may s → Kept P s.must s.may r → Kept P must may r
swept v w = kept_then v w (λ x p. p) (λ x p. p)

pub propagated-same : {P : ℕ → Type 0} {Q : ℕ → ℕ → Type 0} {must may : ℕ} {s r : Bounds} → Kept P must may s → Narrowed P Q s.must s.may r
    → Within must may → r.must ≡ s.must → r.may ≡ s.may → Propagated P Q must may r
propagated-same {P} {Q} v w i d e =
    record {
      kept = swept v w.kept;
      leaf = λ o. subst P (sym d) (w.leaf d e (sym d ∙ o ∙ e));
      settled = subst₂ Q (sym d) (sym e) (w.quiet d e (v.inside i));
    }
