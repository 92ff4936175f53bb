-- `step::read_body` meets its contract: the literals are cut, or what they come to.
-- Assumes nothing.
use Rattle.std.proofs.Common.{sym, ◌∙◌}
use Rattle.record.proofs.Laws.Body.{body-cut}
use Rattle.record.proofs.Laws.Only.{refused-sized}
use Rattle.record_step.proofs.Laws.Judged.{body-judged}
use Rattle.record_step.proofs.step.read_body.Goals as goal

pub returns-then-t-size : goal.returns-then-t-size
returns-then-t-size c =
    let a = c.args in
    c.refuse.ensures ∙ sym (refused-sized _ _ (body-cut a.lim a.defeasible a.t.now a.heads a.positives a.nafs c.if-t-size.true))

pub returns : goal.returns
returns c =
    let a = c.args in
    c.judge_literals.ensures
    ∙ body-judged a.lim a.t.now a.heads a.positives a.nafs c.if-t-size.false a.defeasible _ c.read_literals-run.ensures
