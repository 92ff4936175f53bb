-- `pass::write_block`: the numbers of the block's literals, its lines made from them, and copied.
-- Assumes nothing.
use Rattle.std.proofs.Common.{arith}
use Rattle.aspif.proofs.Laws.Blocks.{made-long, made-wrote}
use Rattle.aspif.proofs.pass.write_block.Goals as goal

pub copy-requires-clause-count_in_bounds_2 : goal.copy-requires-clause-count_in_bounds_2
copy-requires-clause-count_in_bounds_2 c =
    let long = made-long _ c.args.part.now _ c.args.rules c.number_rules-size.ensures.front c.put_lines-n.ensures in
    let told = rw c.numbering.view_is at long in
    omega (arith, told)

pub returns-clause-wrote : goal.returns-clause-wrote
returns-clause-wrote c =
    rw (← c.numbering.view_is) (made-wrote _ c.args.part.now _ c.args.rules c.number_rules-size.ensures.front c.put_lines-n.ensures c.args.to c.copy.ensures)
