-- `pairs::write_pair`: its start, two fields and the line's end. There is room for each, since there is for all.
-- Assumes nothing.
use Rattle.std.proofs.Common.{arith}
use Rattle.aspif_names.proofs.Laws.Pairs.{pair-length, pair-wrote}
use Rattle.aspif_names.proofs.pairs.write_pair.Goals as goal

pub write_start-requires : goal.write_start-requires
write_start-requires c = omega (arith, pair-length c.args.n c.args.m)

pub write_field-first-requires : goal.write_field-first-requires
write_field-first-requires c = omega (arith, pair-length c.args.n c.args.m)

pub write_field-second-requires : goal.write_field-second-requires
write_field-second-requires c = omega (arith, pair-length c.args.n c.args.m)

pub put_end-requires : goal.put_end-requires
put_end-requires c = omega (arith, pair-length c.args.n c.args.m)

pub returns : goal.returns
returns c =
    pair-wrote c.args.n c.args.m c.requires c.write_start.ensures c.write_field-first.ensures c.write_field-second.ensures c.put_end.ensures
