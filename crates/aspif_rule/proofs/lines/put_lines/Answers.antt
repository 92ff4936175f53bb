-- `lines::put_lines`: one line more.
-- Assumes nothing.
use Rattle.std.proofs.Common.{arith}
use borrow.Author.Rules.{part_to_end}
use Rattle.aspif_rule.proofs.Laws.Lines.{lined-start, lined-next}
use Rattle.aspif_rule.proofs.lines.put_lines.Goals as goal

pub loop-init : goal.loop-init
loop-init c = lined-start c.args.part.now c.args.numbers.now c.args.text.now

pub loop-preserved : goal.loop-preserved
loop-preserved c =
    let line = c.put_line-next.ensures in
    lined-next c.loop.invariant c.requires.records (omega arith) _ _ _ line.begun line.upper_bound c.count_literals.ensures.value c.record_size.ensures
    _ _ (part_to_end c.loop.here.now c.record_size.result) (part_to_end c.loop.left.now c.count_literals.result)
