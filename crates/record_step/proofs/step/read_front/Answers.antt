-- `step::read_front` meets its contract: too short a part, or a case for each start.
-- Assumes nothing.
use Rattle.std.proofs.Common.{sym, ap, ◌∙◌}
use Rattle.record.specs.Reading.{rule_at, end_at}
use Rattle.record.specs.Code.{step_of}
use Rattle.record.proofs.Laws.Header.{record-cut, record-rule, record-end}
use Rattle.record_step.proofs.Laws.Front.{front-refuses, opens-rule, opens-end, mark-form, front_same}
use Rattle.record_step.proofs.step.read_front.Goals as goal

pub returns-then-t-lt2 : goal.returns-then-t-lt2
returns-then-t-lt2 c h same = front-refuses _ _ _ _ _ c.refuse.ensures (record-cut c.args.lim h c.args.t.now c.if-t-lt2.true)

pub read_header-requires : goal.read_header-requires
read_header-requires c = mark-form c.args.lim c.args.t.now _ (opens-rule _ _ (sym c.open_record-opening.ensures ∙ c.in-Rule.is))

pub returns-in-Rule : goal.returns-in-Rule
returns-in-Rule c h same =
    let a = c.args in
    let d = c.in-Rule.defeasible in
    let mark = opens-rule _ d (sym c.open_record-opening.ensures ∙ c.in-Rule.is) in
    front_same a.lim a.t.now (rule_at a.lim d a.held a.t.now) _
    (record-rule a.lim h a.t.now c.if-t-lt2.false d mark ∙ ap (λ n. step_of (rule_at a.lim d n a.t.now)) same)
    c.read_header.result c.read_header.ensures

pub returns-in-End : goal.returns-in-End
returns-in-End c h same =
    let a = c.args in
    let mark = opens-end _ (sym c.open_record-opening.ensures ∙ c.in-End.is) in
    front_same a.lim a.t.now (end_at a.held a.t.now) _
    (record-end a.lim h a.t.now c.if-t-lt2.false mark ∙ ap (λ n. step_of (end_at n a.t.now)) same)
    c.read_end.result (c.read_end.ensures a.lim)
