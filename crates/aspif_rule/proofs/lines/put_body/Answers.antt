-- `lines::put_body`: the count, the positive numbers, those under naf, the line's end.
-- Assumes nothing.
use Rattle.std.proofs.Common.{arith}
use Rattle.aspif_rule.proofs.Laws.Lines.{body-begun}
use Rattle.aspif_rule.proofs.lines.put_body.Goals as goal

pub returns-clause-begun : goal.returns-clause-begun
returns-clause-begun c =
    let count = c.put_count-counted.ensures in
    let positives = c.put_run-then.ensures in
    let nafs = c.put_run-end.ensures in
    body-begun c.args.positives.now c.args.nafs.now c.args.to _ _ _ _ count.begun positives.begun nafs.begun (omega arith) c.put_end.ensures
