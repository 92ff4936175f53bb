-- `pass::measure_rules`: the next record is a rule's, whose literals have places; its line is measured.
-- Assumes nothing.
use Rattle.std.proofs.Common.{ap, length, ◌+◌, rules, arith}
use Rattle.record_walk.proofs.Laws.Records.{passing-start, passed-rule, passing-next, passed-end}
use Rattle.aspif_number.proofs.Laws.Program.{rule-room}
use Rattle.aspif.proofs.Laws.Pass.{Measured, measured-start, measured-next}
use Rattle.aspif.proofs.pass.measure_rules.Goals as goal

pub loop-part-init : goal.loop-part-init
loop-part-init c = passing-start c.args.s.now _ (Measured c.args.numbering.now c.args.s.now _ 0) (search rules) (measured-start _ _ _ (search rules))

pub measure_rule-total-requires-clause-whole : goal.measure_rule-total-requires-clause-whole
measure_rule-total-requires-clause-whole c = (passed-rule (c.loop-part.invariant c.requires) c.in-Some.ensures.steps).whole

pub measure_rule-total-requires-clause-room : goal.measure_rule-total-requires-clause-room
measure_rule-total-requires-clause-room c =
    let a = c.loop-part.invariant c.requires in
    let m = passed-rule a c.in-Some.ensures.steps in
    rule-room a.gone m.behind m.the-rule c.requires.asked.placed m.split m.starts

pub overflow_add-total : goal.overflow_add-total
overflow_add-total c =
    let a = c.loop-part.invariant c.requires in
    let m = passed-rule a c.in-Some.ensures.steps in
    let next = measured-next m a.made c.in-Some.ensures.steps _ c.measure_rule-total.ensures in
    omega (arith, next.short, ap length c.requires.bytes, c.requires.asked.short)

pub loop-part-preserved : goal.loop-part-preserved
loop-part-preserved c =
    passing-next c.loop-part.invariant c.in-Some.ensures.steps (Measured c.args.numbering.now c.args.s.now _ (c.loop-part.total + c.measure_rule-total.result))
    (λ w a m. measured-next m a.made c.in-Some.ensures.steps _ c.measure_rule-total.ensures)

pub returns : goal.returns
returns c w =
    let made = passed-end (c.loop-part.invariant w) c.in-None.ensures.steps in
    record { long = made.long; short = omega (arith, made.short) }
