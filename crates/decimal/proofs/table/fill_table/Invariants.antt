-- `table::fill_table`: the entries below k are there.
-- Assumes nothing.
use Rattle.decimal.proofs.Laws.Table.{Filled}
use Rattle.decimal.proofs.table.fill_table.Given as goal

abbrev pub invariant-loop-k : goal.invariant-loop-k
invariant-loop-k l = Filled l.table l.k
