-- `table::fill_table`: one entry more, whose count is that of the powers of 10 reached; at the end, all.
-- Assumes nothing.
use Rattle.std.proofs.Common.{arith}
use Rattle.decimal.proofs.Laws.Figures.{count-figures}
use Rattle.decimal.proofs.Laws.Table.{filled_next, filled-all}
use Rattle.decimal.proofs.table.fill_table.Goals as goal

pub loop-k-preserved : goal.loop-k-preserved
loop-k-preserved c =
    let l = c.loop-k in
    filled_next l.table l.k _ l.invariant (omega arith) (omega (arith, count-figures 2 l.k (omega arith)))

pub returns : goal.returns
returns c = filled-all c.loop-k.table c.loop-k.k (omega arith) (omega arith) c.loop-k.invariant
