-- `names::write_names`: what one place more has is written.
-- Assumes nothing.
use Rattle.std.proofs.Common.{arith}
use Rattle.aspif_names.specs.Code.{name_at, name_lines}
use Rattle.aspif_names.proofs.Laws.Names.{names-places}
use Rattle.aspif_names.proofs.Laws.Places.{filling-start, filling-room, filling-next, filling-end}
use Rattle.aspif_names.proofs.names.write_names.Goals as goal

pub loop-a-init : goal.loop-a-init
loop-a-init c = filling-start (name_at c.args.numbering.now c.args.negated) (name_lines c.args.numbering.now c.args.negated) c.args.out.now c.args.to (names-places c.args.numbering.now c.args.negated) c.requires

pub write_name_at-next-requires-clause-a_in_bounds : goal.write_name_at-next-requires-clause-a_in_bounds
write_name_at-next-requires-clause-a_in_bounds c = filling-room c.loop-a.invariant (omega arith)

pub loop-a-preserved : goal.loop-a-preserved
loop-a-preserved c = filling-next c.loop-a.invariant (omega arith) c.write_name_at-next.ensures

pub returns : goal.returns
returns c = filling-end c.loop-a.invariant (omega arith)
