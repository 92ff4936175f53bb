-- `text::write_text`: the first line, the rules' lines, those behind, the last line.
-- Assumes nothing.
use Rattle.std.proofs.Common.{arith}
use Rattle.aspif.proofs.Laws.Text.{length-text, rules-fit, text-wrote}
use Rattle.aspif.proofs.text.write_text.Goals as goal

pub write_first-requires : goal.write_first-requires
write_first-requires c =
    let held = c.requires in
    omega (arith, held.asked.fits, length-text c.args.numbering.now held.program)

pub write_rules-behind-requires : goal.write_rules-behind-requires
write_rules-behind-requires c = rules-fit c.requires _ c.write_first.auto.out

pub write_behind-end-requires : goal.write_behind-end-requires
write_behind-end-requires c =
    let held = c.requires in
    let rules = c.write_rules-behind.ensures (rules-fit held _ c.write_first.auto.out) in
    omega (arith, held.asked.fits, length-text c.args.numbering.now held.program, rules.next)

pub write_last-requires : goal.write_last-requires
write_last-requires c =
    let held = c.requires in
    let rules = c.write_rules-behind.ensures (rules-fit held _ c.write_first.auto.out) in
    omega (arith, held.asked.fits, length-text c.args.numbering.now held.program, rules.next)

pub returns : goal.returns
returns c w =
    text-wrote c.args.numbering.now w.program _ _ _ c.write_first.ensures (c.write_rules-behind.ensures (rules-fit w _ c.write_first.auto.out))
    c.write_behind-end.ensures c.write_last.ensures
