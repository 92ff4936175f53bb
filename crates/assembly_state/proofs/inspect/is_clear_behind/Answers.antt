-- `inspect::is_clear_behind`: the bytes of one place more, in both rows.
-- Assumes nothing.
use Rattle.std.proofs.Common.{arith}
use Rattle.assembly_state.proofs.Laws.Tally.{clearing-next, clearing-end}
use Rattle.assembly_state.proofs.inspect.is_clear_behind.Goals as goal

pub loop-i-preserved : goal.loop-i-preserved
loop-i-preserved c =
    clearing-next c.loop-i.invariant (omega arith) _ _ c.max-larger.ensures c.max-most.ensures _ _ (omega arith) (omega arith)

pub returns : goal.returns
returns c = clearing-end c.loop-i.invariant (omega arith)
