-- `lines::put_head`: the mark, the head's count, its numbers.
-- Assumes nothing.
use Rattle.std.proofs.Common.{arith}
use Rattle.aspif_rule.proofs.Laws.Lines.{head-begun}
use Rattle.aspif_rule.proofs.lines.put_head.Goals as goal

pub returns-clause-begun : goal.returns-clause-begun
returns-clause-begun c =
    head-begun c.args.heads.now c.args.to _ _ (omega arith) c.put_mark.ensures c.put_count-at.ensures.begun c.put_run.ensures.begun
