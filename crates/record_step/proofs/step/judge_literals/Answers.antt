-- `step::judge_literals` meets its contract: what was refused, a strict rule, or a defeasible one by its head.
-- Assumes nothing.
use Rattle.std.proofs.Common.{Bool, Err, sym, ap, ap₂, ◌∙◌}
use Rattle.std.proofs.lemmas.Result.{err_from_is_err_and}
use Rattle.record.specs.Result.{Answer}
use Rattle.record_step.specs.Code.{judged}
use Rattle.record_step.proofs.Laws.Judged.{judged-empty, judged-marked, judged-signed}
use Rattle.record_step.proofs.step.judge_literals.Goals as goal

pub returns-in_err-run : goal.returns-in_err-run
unfolding judged
returns-in_err-run c =
    let a = c.args in
    let p = err_from_is_err_and c.from_residual.result c.from_residual.ensures.1 in
    p.1 ∙ ap Err p.2 ∙ sym (ap (λ (r : Answer (Unit {0})). judged r a.defeasible a.t.now a.heads a.size) c.in_err-run.was)

pub returns-then-heads-eq0 : goal.returns-then-heads-eq0
returns-then-heads-eq0 c =
    let a = c.args in
    c.refuse.ensures ∙ sym (ap₂ (λ (r : Answer (Unit {0})) (d : Bool). judged r d a.t.now a.heads a.size) c.in_ok-run.was c.if-defeasible.true
    ∙ judged-empty a.t.now a.heads a.size c.if-heads-eq0.true)

pub returns-then-not-is_head_signed : goal.returns-then-not-is_head_signed
returns-then-not-is_head_signed c =
    let a = c.args in
    c.refuse-then-not-is_head_signed.ensures
    ∙ sym (ap₂ (λ (r : Answer (Unit {0})) (d : Bool). judged r d a.t.now a.heads a.size) c.in_ok-run.was c.if-defeasible.true
    ∙ judged-marked a.t.now a.heads a.size c.if-heads-eq0.false (sym c.is_head_signed.ensures ∙ c.if-not-is_head_signed.true))

pub returns-else-not-is_head_signed : goal.returns-else-not-is_head_signed
returns-else-not-is_head_signed c =
    let a = c.args in
    sym (ap₂ (λ (r : Answer (Unit {0})) (d : Bool). judged r d a.t.now a.heads a.size) c.in_ok-run.was c.if-defeasible.true
    ∙ judged-signed a.t.now a.heads a.size c.if-heads-eq0.false (sym c.is_head_signed.ensures ∙ c.if-not-is_head_signed.false))

pub returns-else-defeasible : goal.returns-else-defeasible
unfolding judged
returns-else-defeasible c =
    let a = c.args in
    sym (ap₂ (λ (r : Answer (Unit {0})) (d : Bool). judged r d a.t.now a.heads a.size) c.in_ok-run.was c.if-defeasible.false)
