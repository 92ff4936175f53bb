-- `fields::measure_run`: the next place is among the words, and its field is measured.
-- Assumes nothing.
use Rattle.std.proofs.Common.{arith}
use Rattle.aspif_rule.proofs.Laws.Run.{measuring-next, measuring-end, measuring-told, left-place}
use Rattle.aspif_rule.proofs.fields.measure_run.Goals as goal

pub number_at-requires : goal.number_at-requires
number_at-requires c = omega (arith, c.place_at.ensures, left-place c.loop-i.invariant.rest (omega arith))

pub loop-i-preserved : goal.loop-i-preserved
loop-i-preserved c =
    measuring-told (
    measuring-next c.loop-i.invariant (omega arith) _ _ _ c.place_at.ensures c.number_at.ensures c.measure_field-total.ensures
    )
    _ _ (omega arith) (omega arith)

pub returns : goal.returns
returns c = measuring-end c.loop-i.invariant (omega arith)
