-- `step::read_end` meets its contract: at each return the tests that led there say which step of the definition ends it.
-- Assumes nothing.
use Rattle.std.proofs.Common.{sym, ◌∙◌}
use Rattle.record.proofs.Laws.Header.{end-cut, end-number, end-behind, end-right}
use Rattle.record_step.proofs.Laws.Front.{front-refuses}
use Rattle.record_step.proofs.step.read_end.Goals as goal

pub returns-then-t-lt4 : goal.returns-then-t-lt4
returns-then-t-lt4 c lim = let a = c.args in front-refuses lim _ _ _ _ c.refuse.ensures (end-cut a.held a.t.now c.if-t-lt4.true)

pub returns-then-counted-held : goal.returns-then-counted-held
returns-then-counted-held c lim =
    let a = c.args in
    front-refuses lim _ _ _ _ c.refuse-then-counted-held.ensures
    (end-number a.held a.t.now c.if-t-lt4.false (λ e. c.if-counted-held.true (c.get_number-counted.ensures ∙ e)))

pub returns-then-t-ne4 : goal.returns-then-t-ne4
returns-then-t-ne4 c lim =
    let a = c.args in
    front-refuses lim _ _ _ _ c.refuse-then-t-ne4.ensures (end-behind a.held a.t.now c.if-t-lt4.false c.if-t-ne4.true)

pub returns : goal.returns
returns c lim =
    let a = c.args in
    end-right a.held a.t.now c.if-t-lt4.false (sym c.get_number-counted.ensures ∙ c.if-counted-held.false) c.if-t-ne4.false
