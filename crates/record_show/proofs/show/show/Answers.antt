-- `show::show` meets its contract: the part that the extent gives, or the empty part at the slice's start.
-- Assumes nothing.
use Rattle.std.proofs.Common.{arith, ℕ, take, drop, refl, sym, ap, ◌∙◌}
use native.Mathlib.Nat.{add-sub_cancel_left}
use Rattle.record_show.specs.Show.{shown_extent}
use Rattle.record_show.proofs.Laws.Shown.{shown-fits}
use Rattle.record_show.proofs.show.show.Goals as goal

pub returns-in_default : goal.returns-in_default
unfolding shown_extent
returns-in_default c =
    let told = sym c.find.ensures ∙ c.in_default.is in
    rw told (record { bytes = refl; block = refl; offset = refl })

pub overflow_add-end : goal.overflow_add-end
overflow_add-end c =
    let a = c.args in
    let told = sym c.find.ensures ∙ c.in-Ok.is in
    omega (arith, shown-fits a.lim a.s.now a.number _ (λ i. (c.type_inv.s i).fits) told)

pub slice_bounds-result-end-2 : goal.slice_bounds-result-end-2
slice_bounds-result-end-2 c =
    let a = c.args in
    let told = sym c.find.ensures ∙ c.in-Ok.is in
    shown-fits a.lim a.s.now a.number _ (λ i. (c.type_inv.s i).fits) told

pub returns : goal.returns
unfolding shown_extent
returns c =
    let s = c.args.s.now in
    let told = sym c.find.ensures ∙ c.in-Ok.is in
    let e = c.in-Ok.e in
    rw told (record { bytes = ap (λ (k : ℕ). take k (drop e.start s)) (add-sub_cancel_left e.start e.size); block = refl; offset = refl })
