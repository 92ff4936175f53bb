-- `decimal::write_few`: as many figures are stored as there are.
-- Assumes nothing.
use Rattle.std.proofs.Common.{length, ap, arith}
use Rattle.std.proofs.Math.ListN.{length-set}
use Rattle.decimal.proofs.Laws.Decimal.{length-less}
use Rattle.decimal.proofs.Laws.Few.{decimal-two, decimal-three}
use Rattle.decimal.proofs.Laws.Runs.{one-stored, two-stored, three-stored}
use Rattle.decimal.proofs.decimal.write_few.Goals as goal

pub bounds-out-at : goal.bounds-out-at
bounds-out-at c = omega (arith, ap length (decimal-three c.args.n c.if-n-ge100.true c.requires.n_bound))

pub bounds-out-at-then-n-ge100 : goal.bounds-out-at-then-n-ge100
bounds-out-at-then-n-ge100 c = simp length-set (omega (arith, ap length (decimal-three c.args.n c.if-n-ge100.true c.requires.n_bound)))

pub bounds-out-at-then-n-ge100-2 : goal.bounds-out-at-then-n-ge100-2
bounds-out-at-then-n-ge100-2 c = simp length-set (omega (arith, ap length (decimal-three c.args.n c.if-n-ge100.true c.requires.n_bound)))

pub returns-then-n-ge100 : goal.returns-then-n-ge100
returns-then-n-ge100 c =
    three-stored c.args.out.now c.args.at c.args.n c.requires.n_in_bounds c.if-n-ge100.true c.requires.n_bound

pub bounds-out-at-then-n-ge10 : goal.bounds-out-at-then-n-ge10
bounds-out-at-then-n-ge10 c = omega (arith, ap length (decimal-two c.args.n c.if-n-ge10.true c.if-n-ge100.false))

pub bounds-out-at-then-n-ge10-2 : goal.bounds-out-at-then-n-ge10-2
bounds-out-at-then-n-ge10-2 c = simp length-set (omega (arith, ap length (decimal-two c.args.n c.if-n-ge10.true c.if-n-ge100.false)))

pub returns-then-n-ge10 : goal.returns-then-n-ge10
returns-then-n-ge10 c =
    two-stored c.args.out.now c.args.at c.args.n c.requires.n_in_bounds c.if-n-ge10.true c.if-n-ge100.false

pub bounds-out-at-2 : goal.bounds-out-at-2
bounds-out-at-2 c = omega (arith, length-less c.args.n c.if-n-ge10.false)

pub returns : goal.returns
returns c = one-stored c.args.out.now c.args.at c.args.n c.requires.n_in_bounds c.if-n-ge10.false
