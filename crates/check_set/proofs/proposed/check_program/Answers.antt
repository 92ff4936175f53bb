-- `proposed::check_program` meets its contract: 9 for too short an output, or the verdict.
-- Assumes nothing.
use Rattle.std.proofs.Common.{arith}
use Rattle.check_set.proofs.Laws.Check.{program-short, program-judges, program-found}
use Rattle.check_set.proofs.proposed.check_program.Goals as goal

pub returns-then-out-k : goal.returns-then-out-k
returns-then-out-k c w = rw c.refuse.ensures (program-short c.args.s.now c.args.k.now c.args.out.now w (omega (arith, c.if-out-k.true)))

pub judge-requires : goal.judge-requires
judge-requires c =
    program-judges c.args.s.now c.args.k.now c.args.out.now c.requires (omega (arith, c.if-out-k.false)) (λ i. (c.type_inv.k i).fits)

pub returns : goal.returns
returns c w = program-found c.args.s.now c.args.k.now c.args.out.now w (omega (arith, c.if-out-k.false)) c.judge.ensures
