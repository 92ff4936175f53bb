-- `pairs::write_pair_at`: a line where the atom is marked both ways, else nothing.
-- Assumes nothing.
use Rattle.std.proofs.Common.{sym}
use Rattle.aspif_names.proofs.Laws.Pairs.{pair-some, pair-none}
use Rattle.aspif_names.proofs.Laws.Places.{wrote_by, wrote_none, room_by}
use Rattle.aspif_names.proofs.pairs.write_pair_at.Goals as goal

pub write_pair-requires : goal.write_pair-requires
write_pair-requires c =
    room_by
    (pair-some c.args.numbering.now c.args.a _ _ (sym c.if-is_pair.ensures) c.number_at-n.ensures c.number_at-m.ensures)
    c.args.to _ c.requires.a_in_bounds

pub returns-then-is_pair : goal.returns-then-is_pair
returns-then-is_pair c =
    wrote_by
    (pair-some c.args.numbering.now c.args.a _ _ (sym c.if-is_pair.ensures) c.number_at-n.ensures c.number_at-m.ensures)
    c.write_pair.ensures

pub returns : goal.returns
returns c = wrote_none (pair-none c.args.numbering.now c.args.a (sym c.if-is_pair.ensures)) c.args.out.now c.args.to
