-- `with::with_normal` meets its contract: the array holds the normal form.
-- Assumes nothing.
use Rattle.std.proofs.Common.{arith, refl, sym, ap, ◌∙◌, length}
use lib.ListN.{length-take}
use Rattle.expand.proofs.with.with_normal.Goals as goal

pub slice_bounds-normal-end : goal.slice_bounds-normal-end
slice_bounds-normal-end g c =
    let w = c.write_normal-made.ensures.normal c.requires.file in
    omega (arith, w.size, ap length w.bytes, length-take c.write_normal-made.result.size c.write_normal-made.new.out)

pub slice_bounds-then-end : goal.slice_bounds-then-end
slice_bounds-then-end g c =
    let w = c.write_normal-made.ensures.normal c.requires.file in
    w.size ∙ sym (ap length w.bytes)

pub then-requires : goal.then-requires
then-requires g c = c.requires.callable _ _ (λ w. (c.write_normal-made.ensures.normal w).bytes) refl
