-- `fields::put_field`: eight bytes that start with the field, or the field of a number that has more figures.
-- Assumes nothing.
use Rattle.std.proofs.Common.{arith}
use Rattle.buffer.proofs.Laws.Begun.{begun-wrote}
use Rattle.aspif_rule.proofs.Laws.Fields.{figures-low, many-few, positive-begun, naf-begun, field-short}
use Rattle.aspif_rule.proofs.fields.put_field.Goals as goal

pub write_field-requires : goal.write_field-requires
write_field-requires c = omega (arith, field-short c.args.naf c.args.n (omega arith))

pub returns-then-n-ge1000000-clause-begun : goal.returns-then-n-ge1000000-clause-begun
returns-then-n-ge1000000-clause-begun c =
    begun-wrote (omega (arith, field-short c.args.naf c.args.n (omega arith))) c.write_field.ensures

pub returns-then-n-ge1000000-clause-upper_bound : goal.returns-then-n-ge1000000-clause-upper_bound
returns-then-n-ge1000000-clause-upper_bound c =
    omega (arith, c.write_field.ensures.next, field-short c.args.naf c.args.n (omega arith))

pub overflow_mul-figures : goal.overflow_mul-figures
overflow_mul-figures c = omega (arith, figures-low c.args.n _ c.if-n-ge1000000.false c.pack_decimal-packed.ensures)

pub overflow_add-figures : goal.overflow_add-figures
overflow_add-figures c = omega (arith, figures-low c.args.n _ c.if-n-ge1000000.false c.pack_decimal-packed.ensures)

pub returns-then-naf-clause-begun : goal.returns-then-naf-clause-begun
returns-then-naf-clause-begun c =
    naf-begun c.args.n _ c.if-n-ge1000000.false c.pack_decimal-packed.ensures c.args.naf c.args.at c.if-naf.true c.requires c.put_eight.ensures

pub returns-then-naf-clause-upper_bound : goal.returns-then-naf-clause-upper_bound
returns-then-naf-clause-upper_bound c = omega (arith, many-few c.args.n _ c.if-n-ge1000000.false c.pack_decimal-packed.ensures)

pub returns-clause-begun : goal.returns-clause-begun
returns-clause-begun c =
    positive-begun c.args.n _ c.if-n-ge1000000.false c.pack_decimal-packed.ensures c.args.naf c.args.at c.if-naf.false c.requires c.put_eight-2.ensures

pub returns-clause-upper_bound : goal.returns-clause-upper_bound
returns-clause-upper_bound c = omega (arith, many-few c.args.n _ c.if-n-ge1000000.false c.pack_decimal-packed.ensures)
