-- `table::Table::pack_decimal`: the count is picked; the six figures in one number, shifted by the zeros before the decimal.
-- Assumes nothing.
use Rattle.std.proofs.Common.{◌≡◌, ◌/◌, ◌%◌, ◌≤◌, length, slice_index_or, ◌∙◌, arith}
use Rattle.decimal.specs.Decimal.{decimal}
use Rattle.decimal.specs.Code.{three_figures}
use Rattle.decimal.proofs.Laws.Decimal.{length_most}
use Rattle.decimal.proofs.Laws.Thousands.{picked-few, picked-many, packed-decimal, packed-fits}
use Rattle.decimal.proofs.table.Table.pack_decimal.Goals as goal
use Rattle.decimal.proofs.table.Table.pack_decimal.Goals.{then-n-lt1000, else-n-lt1000}

-- the entries
high_is : (c : goal.After-row_known-1) → slice_index_or c.args.self.entries.now (c.args.n / 1000) 0 ≡ three_figures (c.args.n / 1000)
high_is c = c.args.self.figures.entry (c.args.n / 1000) (omega arith)

low-is : (c : goal.After-row_known-1) → slice_index_or c.args.self.entries.now (c.args.n % 1000) 0 ≡ three_figures (c.args.n % 1000)
low-is c = c.args.self.figures.entry (c.args.n % 1000) (omega arith)

-- the count that is picked
many_is : (c : goal.After-row_known-1) → c.if-n-lt1000.many ≡ length (decimal c.args.n)
many_is c =
    elim c.if-n-lt1000.branch [
      | then-n-lt1000 w ↦ w.many-is ∙ picked-few c.args.n _ w.if-n-lt1000.true (low-is c)
      | else-n-lt1000 w ↦ w.many-is ∙ picked-many c.args.n _ w.if-n-lt1000.false c.requires (high_is c)
    ]

few : (c : goal.After-row_known-1) → c.if-n-lt1000.many ≤ 6
few c = omega (arith, many_is c, length_most 5 c.args.n (omega arith))

pub overflow_sub-result : goal.overflow_sub-result
overflow_sub-result c = omega (arith, few c)

pub overflow_mul-result-2 : goal.overflow_mul-result-2
overflow_mul-result-2 c = record { fits = omega (arith, few c) }

pub overflow_add-result : goal.overflow_add-result
overflow_add-result c = record { fits = packed-fits _ _ _ _ (omega arith) (omega arith) (few c) }

pub returns : goal.returns
returns c = packed-decimal c.args.n _ _ c.requires (high_is c) (low-is c) _ (many_is c)
