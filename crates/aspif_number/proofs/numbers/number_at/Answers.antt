-- `numbers::number_at`: the marks of the words before, and those of the place's word below it.
-- Assumes nothing.
use Rattle.std.proofs.Common.{arith}
use Rattle.aspif_number.proofs.Laws.Rank.{below-le, number-below}
use Rattle.aspif_number.proofs.numbers.number_at.Goals as goal

pub overflow_add-result : goal.overflow_add-result
overflow_add-result c =
    omega (arith, number-below c.args.bits.now c.args.counts.now c.requires.summed c.args.i c.requires.i_bound _ c.single_at-below.ensures, below-le c.args.bits.now c.args.i)

pub overflow_add-result-2 : goal.overflow_add-result-2
overflow_add-result-2 c =
    omega (arith, number-below c.args.bits.now c.args.counts.now c.requires.summed c.args.i c.requires.i_bound _ c.single_at-below.ensures, below-le c.args.bits.now c.args.i)

pub returns-clause-value : goal.returns-clause-value
returns-clause-value c = omega (arith, number-below c.args.bits.now c.args.counts.now c.requires.summed c.args.i c.requires.i_bound _ c.single_at-below.ensures)

pub returns-clause-upper_bound : goal.returns-clause-upper_bound
returns-clause-upper_bound c =
    omega (arith, number-below c.args.bits.now c.args.counts.now c.requires.summed c.args.i c.requires.i_bound _ c.single_at-below.ensures, below-le c.args.bits.now c.args.i)
