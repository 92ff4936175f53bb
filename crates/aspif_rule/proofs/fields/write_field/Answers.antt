-- `fields::write_field`: a blank, under naf a minus, then the decimal.
-- Assumes nothing.
use Rattle.std.proofs.Common.{length, arith}
use Rattle.aspif_rule.proofs.Laws.Fields.{length-naf, length-positive, field_room, positive-wrote, naf-wrote}
use Rattle.aspif_rule.proofs.fields.write_field.Goals as goal

pub put_byte-requires : goal.put_byte-requires
put_byte-requires c = field_room c.args.naf c.args.n c.args.at (length c.args.out.now) c.requires

pub put_byte-requires-then-naf : goal.put_byte-requires-then-naf
put_byte-requires-then-naf c = omega (arith, length-naf c.args.naf c.args.n c.if-naf.true)

pub write_decimal-requires : goal.write_decimal-requires
write_decimal-requires c = omega (arith, length-naf c.args.naf c.args.n c.if-naf.true)

pub returns-then-naf : goal.returns-then-naf
returns-then-naf c =
    naf-wrote c.args.naf c.args.n c.args.at _ c.if-naf.true c.requires c.put_byte.ensures c.put_byte-then-naf.ensures c.write_decimal.ensures

pub write_decimal-requires-2 : goal.write_decimal-requires-2
write_decimal-requires-2 c = omega (arith, length-positive c.args.naf c.args.n c.if-naf.false)

pub returns : goal.returns
returns c = positive-wrote c.args.naf c.args.n c.args.at _ c.if-naf.false c.requires c.put_byte.ensures c.write_decimal-2.ensures
