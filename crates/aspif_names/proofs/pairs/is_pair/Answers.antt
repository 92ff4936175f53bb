-- `pairs::is_pair`: the negation's mark is asked for where the atom is marked.
-- Assumes nothing.
use Rattle.std.proofs.Common.{sym, ◌∙◌}
use Rattle.aspif_names.proofs.Laws.Pairs.{both_by, both-none}
use Rattle.aspif_names.proofs.pairs.is_pair.Goals as goal

pub returns-then-is_marked : goal.returns-then-is_marked
returns-then-is_marked c =
    both_by c.args.numbering.now c.args.a (sym c.if-is_marked.ensures) _ c.is_marked-then-is_marked.ensures

pub returns-else-is_marked : goal.returns-else-is_marked
returns-else-is_marked c = c.if-is_marked.false ∙ both-none c.args.numbering.now c.args.a (sym c.if-is_marked.ensures)
