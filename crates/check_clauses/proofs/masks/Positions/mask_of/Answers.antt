-- `Positions::mask_of` meets its contract, by the place of the literal.
use Rattle.std.proofs.Common.{sym, ◌∙◌}
use Rattle.check_clauses.proofs.Laws.Position.{key-mask-place, key-mask-none}
use Rattle.check_clauses.proofs.masks.Positions.mask_of.Goals as goal

pub returns-in-Some : goal.returns-in-Some
returns-in-Some c =
    let s = c.args.self.set in
    c.single_at.ensures ∙ sym (key-mask-place s.bytes.now c.args.wanted s.count s.ascends _ c.in-Some.ensures)

pub returns-in-None : goal.returns-in-None
returns-in-None c =
    let s = c.args.self.set in
    sym (key-mask-none s.bytes.now c.args.wanted s.count c.in-None.ensures)
