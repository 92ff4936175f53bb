-- A sweep over the clauses narrows two bounds by nothing but the model: at its start, a clause further, and cut short.
-- Assumes nothing.
use Rattle.std.proofs.Common.{ℕ, ◌+◌, ◌<◌, ◌≤◌, subst, List, get_or, take, length, All, arith, length-take}
use Rattle.std.proofs.lemmas.List.{take_all, take-take, get_or-take}
use Rattle.std.proofs.lemmas.List.Elements.{All-nil, All-more, All-take, All-get_or}
use Rattle.check_force.specs.declared.Bounds.{Bounds}
use Rattle.check_force.specs.declared.Clause.{Clause}
use Rattle.check_force.specs.Code.{Holds, Model, Settled, Quiet, Dead, Narrowed}
use Rattle.check_force.proofs.Laws.Narrow.{dead_then, then, same-property}

module _ (whole : ℕ) (cs : List Clause) where
  -- the first i clauses have narrowed the bounds
  abbrev pub Swept : ℕ → ℕ → ℕ → Bounds → Type 0
  Swept i = Narrowed (Model whole (take i cs)) (Settled whole (take i cs))

  abbrev HoldsIn : ℕ → Clause → Type 0
  HoldsIn x c = Holds c.body c.head x

  abbrev QuietOn : ℕ → ℕ → Clause → Type 0
  QuietOn must may c = Quiet (Holds c.body c.head) must may

  -- a model of all clauses is one of the first
  fewer : (i x : ℕ) → Model whole cs x → Model whole (take i cs) x
  fewer i x m = record { proper = m.proper; each = All-take (HoldsIn x) i cs m.each }

  module _ {must may : ℕ} where
    pub pass-start : {r : Bounds} → Narrowed (Holds whole 0) (Quiet (Holds whole 0)) must may r → Swept 0 must may r
    pass-start =
        same-property (λ x m. m.proper) (λ x h. record { proper = h; each = All-nil (HoldsIn x) })
        (λ q. record { proper = q; each = All-nil (QuietOn must may) })

    module _ (i : ℕ) (d : Clause) (l : i < length cs) {s : Bounds} (v : Swept i must may s) where
      abbrev c : Clause
      c = get_or cs i d

      one : (P : Clause → Type 0) → All P (take (i + 1) cs) → All P (take i cs) × P c
      one P a = (
        subst (All P) (take-take i (i + 1) cs (omega arith)) (All-take P i (take (i + 1) cs) a),
        subst P (get_or-take (i + 1) cs i d (omega arith)) (All-get_or P (take (i + 1) cs) i d (omega (arith, length-take (i + 1) cs)) a),
      )

      pub pass_step : {r : Bounds} → Narrowed (Holds c.body c.head) (Quiet (Holds c.body c.head)) s.must s.may r → Swept (i + 1) must may r
      pass_step w =
          then v w (λ x m. record { proper = m.proper; each = (one (HoldsIn x) m.each).0 }) (λ x m. (one (HoldsIn x) m.each).1)
          (λ x m h. record { proper = m.proper; each = All-more (HoldsIn x) cs i d l m.each h })
          (λ t q. record { proper = t.proper; each = All-more (QuietOn must may) cs i d l t.each q })

      -- where no mask is left between the bounds, the clauses that are left change nothing
      pub pass-dead : Dead (Holds c.body c.head) s.must s.may → Dead (Model whole cs) must may
      pass-dead n =
          dead_then v.kept n (λ x m. fewer i x m) (λ x m. (one (HoldsIn x) (fewer (i + 1) x m).each).1)

    pub pass-end : (i : ℕ) {r : Bounds} → length cs ≤ i → Swept i must may r → Narrowed (Model whole cs) (Settled whole cs) must may r
    pass-end i {r} h v = subst (λ (ds : List Clause). Narrowed (Model whole ds) (Settled whole ds) must may r) (take_all i cs h) v
