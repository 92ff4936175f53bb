-- `block::gather_run`: the next place is among the words, and what its number is made of is gathered.
-- Assumes nothing.
use Rattle.std.proofs.Common.{arith}
use Rattle.aspif_number.proofs.Laws.Gather.{gathering-place, gathering-next, gathering-end, gathering-told}
use Rattle.aspif_number.proofs.block.gather_run.Goals as goal

pub bounds-bits-w : goal.bounds-bits-w
bounds-bits-w c = omega (arith, c.place_at-i.ensures, gathering-place c.loop-j.invariant (omega arith))

pub bounds-counts-w : goal.bounds-counts-w
bounds-counts-w c = omega (arith, c.place_at-i.ensures, gathering-place c.loop-j.invariant (omega arith), c.requires.summed.same)

pub loop-j-preserved : goal.loop-j-preserved
loop-j-preserved c =
    let p = c.requires in
    gathering-told (
    gathering-next c.loop-j.invariant (omega arith) p.count_in_bounds_2 p.count_in_bounds_3 p.bits_len_bound c.args.counts.now p.summed _
    c.place_at-i.ensures _ c.single_at.ensures
    )
    _ _ _ (omega arith) (omega arith) (omega arith)

pub returns : goal.returns
returns c = gathering-end c.loop-j.invariant (omega arith)
