-- `lines::put_count`: below 10 a blank and the figure.
-- Assumes nothing.
use Rattle.std.proofs.Common.{arith}
use Rattle.aspif_rule.proofs.Laws.Lines.{figure-begun}
use Rattle.aspif_rule.proofs.lines.put_count.Goals as goal

pub returns-then-n-lt10-clause-begun : goal.returns-then-n-lt10-clause-begun
returns-then-n-lt10-clause-begun c = figure-begun c.args.at c.args.n _ c.if-n-lt10.true (omega arith) c.put_word.ensures
