-- `read::mark_record` meets its contract: what stands before the literals tells the record, or they do, and the rule is a strict one.
-- Assumes nothing.
use Rattle.std.proofs.Common.{refl, sym, ap, ◌∙◌, Ok, Err}
use Rattle.std.proofs.lemmas.Result.{err_from_is_err_and}
use Rattle.record.proofs.Laws.Header.{record-unmarked}
use Rattle.record_step.proofs.Laws.Front.{front-refused, front-end, front-literals, front-other, other-unmarked}
use Rattle.aspif_read.proofs.Laws.Body.{strict-step, refused-marked}
use Rattle.aspif_read.proofs.read.mark_record.Goals as goal

pub returns-in_err-read_front-clause-value : goal.returns-in_err-read_front-clause-value
returns-in_err-read_front-clause-value c =
    let p = err_from_is_err_and c.from_residual.result c.from_residual.ensures.1 in
    p.1 ∙ ap Err p.2 ∙ sym (front-refused _ _ _ _ _ c.in_err-read_front.was (c.read_front.ensures c.args.held refl))

pub returns-in_err-read_front-clause-marked : goal.returns-in_err-read_front-clause-marked
returns-in_err-read_front-clause-marked c =
    let p = err_from_is_err_and c.from_residual.result c.from_residual.ensures.1 in
    refused-marked c.args.t.now c.args.bits.now c.args.bits.now _ _ p.1

pub mark_body-requires-clause-in_bounds : goal.mark_body-requires-clause-in_bounds
mark_body-requires-clause-in_bounds c =
    (front-literals _ _ _ _ _ (c.in_ok-read_front.was ∙ ap Ok c.in-Literals.is) (c.read_front.ensures c.args.held refl)).whole

pub returns-in-Literals-clause-value : goal.returns-in-Literals-clause-value
returns-in-Literals-clause-value c =
    let a = c.args in
    let left = front-literals _ _ _ _ _ (c.in_ok-read_front.was ∙ ap Ok c.in-Literals.is) (c.read_front.ensures a.held refl) in
    strict-step a.lim a.t.now _ _ left c.requires.defeasible_value _ c.mark_body.ensures.value

pub returns-in-End-clause-value : goal.returns-in-End-clause-value
returns-in-End-clause-value c =
    sym (front-end _ _ _ _ (c.in_ok-read_front.was ∙ ap Ok c.in-End.is) (c.read_front.ensures c.args.held refl))

-- a form without sheets has no other mark
pub returns-in-Other-clause-value : goal.returns-in-Other-clause-value
returns-in-Other-clause-value c =
    let a = c.args in
    let other = front-other a.lim a.t.now _ _ (c.in_ok-read_front.was ∙ ap Ok c.in-Other.is) (c.read_front.ensures a.held refl) in
    c.refuse.ensures ∙ sym (record-unmarked a.lim a.held a.t.now other.whole (other-unmarked a.lim a.t.now other c.requires.sheets_value))

pub returns-in-Other-clause-marked : goal.returns-in-Other-clause-marked
returns-in-Other-clause-marked c = refused-marked c.args.t.now c.args.bits.now c.args.bits.now _ _ c.refuse.ensures
