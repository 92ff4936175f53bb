-- `call::add_record` meets its contract: no open assembly, what reading refuses, or what holding the record comes to.
-- Assumes nothing.
use Rattle.std.proofs.Common.{refl, sym, ap, ◌∙◌}
use Rattle.std.proofs.lemmas.Result.{err_from_is_err_and}
use borrow.Author.Tests.{not-true, not-false}
use Rattle.literal.specs.declared.Limits.{Limits}
use Rattle.literal.specs.Limits.{source}
use Rattle.record.specs.Reading.{rule_only}
use Rattle.assembly.specs.declared.Standing.{Standing}
use Rattle.assembly.proofs.Laws.Turn.{active-state, idle-add, add-refused}
use Rattle.assembly.proofs.Laws.Forms.{assemblable-source}
use Rattle.assembly_call.proofs.Laws.Calls.{refused-meets}
use Rattle.assembly_call.proofs.call.add_record.Goals as goal

pub returns-then-not-standing : goal.returns-then-not-standing
returns-then-not-standing c =
    refused-meets _ _ _ _ _
    (idle-add source _ _ (sym (ap (λ (h : Standing). h.active) c.inspect_source-standing.ensures) ∙ not-true _ c.if-not-standing.true) _)
    c.refuse.ensures

pub returns-in_err-size : goal.returns-in_err-size
returns-in_err-size c =
    let a = c.args in
    let h = c.inspect_source-standing.result in
    let p = err_from_is_err_and c.from_residual.result c.from_residual.ensures.1 in
    let read = c.read_rule.ensures ∙ ap (λ (F : Limits). rule_only F h.rules a.rule.now) c.limits.ensures in
    let w = active-state source assemblable-source a.state.now (λ i. (c.slice_known-1.given i).fits) h c.inspect_source-standing.ensures
    (not-false _ c.if-not-standing.false) in
    rw (p.1, p.2) (refused-meets _ _ _ _ _ (add-refused source assemblable-source _ _ _ _ w a.rule.now _ (sym read ∙ c.in_err-size.was)) refl)

pub hold_record-requires-clause-active_value : goal.hold_record-requires-clause-active_value
hold_record-requires-clause-active_value c = not-false _ c.if-not-standing.false

pub hold_record-requires-clause-rule_value : goal.hold_record-requires-clause-rule_value
hold_record-requires-clause-rule_value c =
    let h = c.inspect_source-standing.result in
    sym (c.read_rule.ensures ∙ ap (λ (F : Limits). rule_only F h.rules c.args.rule.now) c.limits.ensures) ∙ c.in_ok-size.was
