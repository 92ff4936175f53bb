-- `lines::put_run`: one field more.
-- Assumes nothing.
use Rattle.std.proofs.Common.{arith}
use Rattle.aspif_rule.proofs.Laws.Lines.{filled-start, filled_next}
use Rattle.aspif_rule.proofs.lines.put_run.Goals as goal

pub loop-n-init : goal.loop-n-init
loop-n-init c = filled-start c.args.numbers.now c.args.naf c.args.text.now c.args.to

pub loop-n-preserved : goal.loop-n-preserved
loop-n-preserved c =
    filled_next c.loop-n.invariant (omega arith) c.put_field-next.ensures.begun c.put_field-next.ensures.upper_bound
