-- `pairs::measure_pair_at`: a line where the atom is marked both ways, else nothing.
-- Assumes nothing.
use Rattle.std.proofs.Common.{sym}
use Rattle.aspif_names.proofs.Laws.Pairs.{pair-some, pair-none}
use Rattle.aspif_names.proofs.Laws.Places.{long-by, long-none}
use Rattle.aspif_names.proofs.pairs.measure_pair_at.Goals as goal

pub returns-then-is_pair : goal.returns-then-is_pair
returns-then-is_pair c =
    long-by
    (pair-some c.args.numbering.now c.args.a _ _ (sym c.if-is_pair.ensures) c.number_at.ensures c.number_at-then-is_pair.ensures)
    c.measure_pair.ensures

pub returns : goal.returns
returns c = long-none (pair-none c.args.numbering.now c.args.a (sym c.if-is_pair.ensures))
