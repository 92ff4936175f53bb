-- `inspect::tally_shapes`: one rule more, by its two bytes.
-- Assumes nothing.
use Rattle.std.proofs.Common.{◌+◌, arith}
use Rattle.assembly_state.proofs.Laws.Tally.{tallying-next, tallying-end}
use Rattle.assembly_state.proofs.inspect.tally_shapes.Goals as goal

pub loop-i-preserved : goal.loop-i-preserved
loop-i-preserved c =
    let at = 8 + c.loop-i.i in
    let heads = c.add.ensures in
    let body = c.add-in-loop-i.ensures in
    tallying-next c.loop-i.invariant (omega arith) (omega (arith, c.type_inv.state at)) (omega (arith, c.type_inv.state (at + c.args.lim.rules)))
    _ c.count_heads-h.ensures _ heads.most heads.sum body.most body.sum _ _ (omega arith) (omega arith)

pub returns : goal.returns
returns c = tallying-end c.loop-i.invariant (omega arith)
