-- `marks::mark_place`: the place's word has it besides, and its count one more where it is new.
-- Assumes nothing.
use Rattle.aspif_number.proofs.Laws.Gained.{gained-place, tallied-place}
use Rattle.aspif_number.proofs.marks.mark_place.Goals as goal

pub returns-clause-gained : goal.returns-clause-gained
returns-clause-gained c = rw c.single_at.ensures (gained-place c.args.bits.now c.args.i c.requires.i_bound)

pub returns-clause-tallied_2 : goal.returns-clause-tallied_2
returns-clause-tallied_2 c =
    rw c.single_at.ensures
    (tallied-place c.args.bits.now c.args.i c.requires.i_bound c.args.counts.now c.requires.tallied _ c.is_in.ensures)
