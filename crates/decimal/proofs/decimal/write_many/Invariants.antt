-- `decimal::write_many`: the figures from `to` on are stored.
-- Assumes nothing.
use Rattle.decimal.proofs.Laws.Stores.{Storing}
use Rattle.decimal.proofs.decimal.write_many.Given as goal

abbrev pub invariant-loop-to : goal.invariant-loop-to
invariant-loop-to l = Storing l.fn.out l.at l.n l.out l.left l.to
