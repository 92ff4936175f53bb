-- `aspif::export_marked` meets its contract: with the marks below each word counted, the text by the marks is the program's.
-- Assumes nothing.
use Rattle.std.proofs.Common.{arith}
use Rattle.aspif.proofs.Laws.Outcome.{own-numbers}
use Rattle.aspif.proofs.aspif.export_marked.Goals as goal

pub sum_below-requires-clause-bits_len_bound : goal.sum_below-requires-clause-bits_len_bound
sum_below-requires-clause-bits_len_bound c = omega (arith, (c.requires.marks c.requires.holds).whole)

pub returns : goal.returns
returns c w =
    own-numbers c.args.lim c.requires.exportable w.program w.asked.kept _ (c.requires.marks w) c.args.out.now (c.write_fitting.ensures w)

-- the marks below each word are counted
pub invariant_of-write_fitting : goal.invariant_of-write_fitting
invariant_of-write_fitting c = record { whole = (c.requires.marks c.requires.holds).whole; summed = c.sum_below.ensures }
