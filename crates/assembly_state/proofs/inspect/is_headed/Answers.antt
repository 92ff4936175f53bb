-- `inspect::is_headed`: each return cites the law of the test that led there.
-- Assumes nothing.
use Rattle.std.proofs.Common.{sym, ap, ◌∙◌, eqb, leb}
use Rattle.assembly_state.proofs.Laws.Inspect.{
  length-wrong,
  stage-wrong,
  first-free-wrong,
  second-free-wrong,
  third-free-wrong,
  headed-before,
  headed-begun,
}
use Rattle.assembly_state.proofs.inspect.is_headed.Goals as goal

pub returns-then-state-lim : goal.returns-then-state-lim
returns-then-state-lim c = sym (length-wrong _ _ c.if-state-lim.true)

pub returns-then-state-gt2 : goal.returns-then-state-gt2
returns-then-state-gt2 c = sym (stage-wrong _ _ c.if-state-lim.false c.if-state-gt2.true)

pub returns-then-state-ne0 : goal.returns-then-state-ne0
returns-then-state-ne0 c = sym (first-free-wrong _ _ c.if-state-lim.false c.if-state-gt2.false c.if-state-ne0.true)

pub returns-then-get_number-ne0 : goal.returns-then-get_number-ne0
returns-then-get_number-ne0 c =
    sym (second-free-wrong _ _ c.if-state-lim.false c.if-state-gt2.false c.if-state-ne0.false (λ e. c.if-get_number-ne0.true (c.get_number.ensures ∙ e)))

pub returns-then-get_number-ne0-2 : goal.returns-then-get_number-ne0-2
returns-then-get_number-ne0-2 c =
    sym (third-free-wrong _ _ c.if-state-lim.false c.if-state-gt2.false c.if-state-ne0.false (sym c.get_number.ensures ∙ c.if-get_number-ne0.false)
    (λ e. c.if-get_number-ne0-2.true (c.get_number-2.ensures ∙ e)))

pub returns-then-state-eq0 : goal.returns-then-state-eq0
returns-then-state-eq0 c =
    ap (λ n. eqb n 0) c.get_number-rules.ensures
    ∙ sym (headed-before _ _ c.if-state-lim.false c.if-state-gt2.false c.if-state-ne0.false (sym c.get_number.ensures ∙ c.if-get_number-ne0.false)
    (sym c.get_number-2.ensures ∙ c.if-get_number-ne0-2.false) c.if-state-eq0.true)

pub returns : goal.returns
returns c =
    ap (λ n. leb n c.args.lim.rules) c.get_number-rules.ensures
    ∙ sym (headed-begun _ _ c.if-state-lim.false c.if-state-gt2.false c.if-state-ne0.false (sym c.get_number.ensures ∙ c.if-get_number-ne0.false)
    (sym c.get_number-2.ensures ∙ c.if-get_number-ne0-2.false) c.if-state-eq0.false)
