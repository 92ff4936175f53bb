-- `text::measure_text`: the parts' lengths, and the first and the last line.
-- Assumes nothing.
use Rattle.std.proofs.Common.{ap, length, arith}
use Rattle.aspif.proofs.Laws.Text.{length-behind, length-text}
use Rattle.aspif.proofs.text.measure_text.Goals as goal

pub overflow_add-result : goal.overflow_add-result
overflow_add-result c =
    let held = c.requires in
    omega (arith, (c.measure_rules-rules.ensures held).short, ap length held.bytes, held.asked.short)

pub overflow_add-result-2 : goal.overflow_add-result-2
overflow_add-result-2 c =
    let held = c.requires in
    omega (arith, (c.measure_rules-rules.ensures held).short, ap length held.bytes, held.asked.short)

pub overflow_add-result-3 : goal.overflow_add-result-3
overflow_add-result-3 c =
    let held = c.requires in
    omega (arith, (c.measure_rules-rules.ensures held).short, ap length held.bytes, held.asked.short)

pub returns : goal.returns
returns c w =
    let rules = (c.measure_rules-rules.ensures w).long in
    omega (arith, length-text c.args.numbering.now w.program, length-behind c.args.numbering.now, rules)
