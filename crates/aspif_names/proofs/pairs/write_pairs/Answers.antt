-- `pairs::write_pairs`: what one place more has is written.
-- Assumes nothing.
use Rattle.std.proofs.Common.{arith}
use Rattle.aspif_names.specs.Code.{pair_at, pair_lines}
use Rattle.aspif_names.proofs.Laws.Pairs.{pairs-places}
use Rattle.aspif_names.proofs.Laws.Places.{filling-start, filling-room, filling-next, filling-end}
use Rattle.aspif_names.proofs.pairs.write_pairs.Goals as goal

pub loop-a-init : goal.loop-a-init
loop-a-init c = filling-start (pair_at c.args.numbering.now) (pair_lines c.args.numbering.now) c.args.out.now c.args.to (pairs-places c.args.numbering.now) c.requires

pub write_pair_at-next-requires-clause-a_in_bounds : goal.write_pair_at-next-requires-clause-a_in_bounds
write_pair_at-next-requires-clause-a_in_bounds c = filling-room c.loop-a.invariant (omega arith)

pub loop-a-preserved : goal.loop-a-preserved
loop-a-preserved c = filling-next c.loop-a.invariant (omega arith) c.write_pair_at-next.ensures

pub returns : goal.returns
returns c = filling-end c.loop-a.invariant (omega arith)
