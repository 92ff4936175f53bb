-- `names::write_name_at`: a line where the place is marked, else nothing.
-- Assumes nothing.
use Rattle.std.proofs.Common.{sym, arith}
use Rattle.aspif_names.proofs.Laws.Names.{name-some, name-none}
use Rattle.aspif_names.proofs.Laws.Places.{wrote_by, wrote_none, room_by}
use Rattle.aspif_names.proofs.names.write_name_at.Goals as goal

pub write_name-requires-clause-n_in_bounds : goal.write_name-requires-clause-n_in_bounds
write_name-requires-clause-n_in_bounds c =
    room_by
    (name-some c.args.numbering.now c.args.negated c.args.a _ _ (omega (arith, c.pick_row.ensures.value)) (sym c.if-is_marked.ensures)
    c.number_at.ensures)
    c.args.to _ c.requires.a_in_bounds

pub returns-then-is_marked : goal.returns-then-is_marked
returns-then-is_marked c =
    wrote_by
    (name-some c.args.numbering.now c.args.negated c.args.a _ _ (omega (arith, c.pick_row.ensures.value)) (sym c.if-is_marked.ensures)
    c.number_at.ensures)
    c.write_name.ensures

pub returns : goal.returns
returns c =
    wrote_none (name-none c.args.numbering.now c.args.negated c.args.a _ (omega (arith, c.pick_row.ensures.value)) (sym c.if-is_marked.ensures))
    c.args.out.now c.args.to
