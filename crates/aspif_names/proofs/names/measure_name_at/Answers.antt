-- `names::measure_name_at`: a line where the place is marked, else nothing.
-- Assumes nothing.
use Rattle.std.proofs.Common.{sym, arith}
use Rattle.aspif_names.proofs.Laws.Names.{name-some, name-none}
use Rattle.aspif_names.proofs.Laws.Places.{long-by, long-none}
use Rattle.aspif_names.proofs.names.measure_name_at.Goals as goal

pub returns-then-is_marked : goal.returns-then-is_marked
returns-then-is_marked c =
    long-by
    (name-some c.args.numbering.now c.args.negated c.args.a _ _ (omega (arith, c.pick_row.ensures.value)) (sym c.if-is_marked.ensures)
    c.number_at.ensures)
    c.measure_name.ensures

pub returns : goal.returns
returns c =
    long-none (name-none c.args.numbering.now c.args.negated c.args.a _ (omega (arith, c.pick_row.ensures.value)) (sym c.if-is_marked.ensures))
