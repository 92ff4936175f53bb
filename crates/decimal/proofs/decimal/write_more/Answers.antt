-- `decimal::write_more`: the first of five figures, and the other four behind it or over it.
-- Assumes nothing.
use Rattle.std.proofs.Common.{arith}
use Rattle.std.proofs.Math.ListN.{length-set}
use Rattle.decimal.proofs.Laws.Runs.{more-stored, more-long}
use Rattle.decimal.proofs.decimal.write_more.Goals as goal

pub bounds-out-at : goal.bounds-out-at
bounds-out-at c = omega (arith, more-long c.args.n c.requires.le_n c.requires.n_bound)

pub write_four-requires-clause-at_in_bounds : goal.write_four-requires-clause-at_in_bounds
write_four-requires-clause-at_in_bounds c = simp length-set (omega (arith, more-long c.args.n c.requires.le_n c.requires.n_bound))

pub returns : goal.returns
returns c =
    more-stored c.args.out.now c.args.at c.args.n c.requires.n_in_bounds c.requires.le_n c.requires.n_bound _ c.write_four.ensures
