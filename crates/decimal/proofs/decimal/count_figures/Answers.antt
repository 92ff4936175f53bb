-- `decimal::count_figures`: one figure, and one for each power of 10 that the number has reached.
-- Assumes nothing.
use Rattle.std.proofs.Common.{arith}
use Rattle.decimal.proofs.Laws.Figures.{count-figures, most-reached}
use Rattle.decimal.proofs.decimal.count_figures.Goals as goal

pub returns-then-n-lt100000 : goal.returns-then-n-lt100000
returns-then-n-lt100000 c =
    record {
      figures = omega (arith, count-figures 4 c.args.n (omega arith));
      least = omega arith;
      most = omega (arith, most-reached 4 10 c.args.n);
    }

pub returns : goal.returns
returns c =
    record {
      figures = omega (arith, count-figures 9 c.args.n (omega arith));
      least = omega arith;
      most = omega (arith, most-reached 9 10 c.args.n);
    }
