-- `decimal::write_many`: one figure more.
-- Assumes nothing.
use Rattle.std.proofs.Common.{arith}
use Rattle.decimal.proofs.Laws.Stores.{storing-next}
use Rattle.decimal.proofs.decimal.write_many.Goals as goal

pub loop-to-preserved : goal.loop-to-preserved
loop-to-preserved c = let l = c.loop-to in storing-next l.invariant (omega arith) (omega arith)
