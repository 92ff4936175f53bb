-- `read::mark_body` meets its contract: at each return the tests that led there say which step of the definition ends it.
-- Assumes nothing.
use Rattle.std.proofs.Common.{sym, ap, ◌∙◌, Err}
use Rattle.std.proofs.lemmas.Result.{err_from_is_err_and}
use Rattle.aspif_read.proofs.Laws.Body.{cut_step, wrong-step, right-step, right-marked, refused-marked}
use Rattle.aspif_read.proofs.read.mark_body.Goals as goal

pub returns-then-t-size-clause-value : goal.returns-then-t-size-clause-value
returns-then-t-size-clause-value c = c.refuse.ensures ∙ sym (cut_step c.args.lim c.args.t.now _ c.count_literals-count.ensures.value c.if-t-size.true)

pub returns-then-t-size-clause-marked : goal.returns-then-t-size-clause-marked
returns-then-t-size-clause-marked c = refused-marked c.args.t.now c.args.bits.now c.args.bits.now _ _ c.refuse.ensures

pub returns-in_err-mark_literals-clause-value : goal.returns-in_err-mark_literals-clause-value
returns-in_err-mark_literals-clause-value c =
    let p = err_from_is_err_and c.from_residual.result c.from_residual.ensures.1 in
    p.1 ∙ ap Err p.2
    ∙ sym (wrong-step c.args.lim c.args.t.now _ c.count_literals-count.ensures.value c.if-t-size.false _ c.mark_literals.ensures.value _
    c.in_err-mark_literals.was)

pub returns-in_err-mark_literals-clause-marked : goal.returns-in_err-mark_literals-clause-marked
returns-in_err-mark_literals-clause-marked c =
    let p = err_from_is_err_and c.from_residual.result c.from_residual.ensures.1 in
    refused-marked c.args.t.now c.args.bits.now _ _ _ p.1

pub returns-clause-value : goal.returns-clause-value
returns-clause-value c =
    sym (right-step c.args.lim c.args.t.now _ c.count_literals-count.ensures.value c.if-t-size.false _ c.mark_literals.ensures.value
    c.in_ok-mark_literals.was)

pub returns-clause-marked : goal.returns-clause-marked
returns-clause-marked c =
    right-marked c.args.lim c.args.t.now _ c.count_literals-count.ensures.value c.args.bits.now _ (c.mark_literals.ensures.gained c.in_ok-mark_literals.was)
