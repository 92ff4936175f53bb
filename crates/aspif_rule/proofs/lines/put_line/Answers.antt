-- `lines::put_line`: the head's part, `0`, the body.
-- Assumes nothing.
use Rattle.std.proofs.Common.{arith}
use Rattle.aspif_rule.proofs.Laws.Lines.{line-begun}
use Rattle.aspif_rule.proofs.lines.put_line.Goals as goal

pub returns-clause-begun : goal.returns-clause-begun
returns-clause-begun c =
    let h = c.split_at.ensures in
    let p = c.split_at-2.ensures in
    line-begun c.args.part.now c.args.numbers.now _ _ _ _ h.front h.back p.front p.back c.args.to _ _ _
    c.put_head-at.ensures.begun (omega (arith, h.front_len)) c.put_word-weightless.ensures c.put_body.ensures.begun
