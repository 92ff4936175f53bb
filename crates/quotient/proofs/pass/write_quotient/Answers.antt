-- What is left of each rule is written behind what was left of those before it, and at the end all is the quotient.
use Rattle.std.proofs.Common.{rules, arith, ◌+◌, ap, length}
use Rattle.record_walk.proofs.Laws.Records.{passing-start, passed-rule, passing-next, passed-end}
use Rattle.set.specs.Code.{key_set}
use Rattle.quotient.proofs.Laws.Program.{length-quotient, rules-left}
use Rattle.quotient.proofs.Laws.Pass.{adds-few, adds-within, rules-few, one-few, Made, made-start, made-next, made-end}
use Rattle.quotient.proofs.pass.write_quotient.Goals as goal

pub loop-part-init : goal.loop-part-init
loop-part-init c =
    let u = key_set c.args.set.bytes.now c.args.set.count in
    passing-start c.args.s.now _ (Made u c.args.out.now c.args.out.now 0 0) (search rules) (made-start u c.args.out.now)

pub write_remainder-size-requires-clause-t_in_bounds : goal.write_remainder-size-requires-clause-t_in_bounds
write_remainder-size-requires-clause-t_in_bounds c =
    let a = c.loop-part.invariant c.requires in
    (passed-rule a c.in-Some.ensures.steps).whole

pub write_remainder-size-requires-clause-t_in_bounds_2 : goal.write_remainder-size-requires-clause-t_in_bounds_2
write_remainder-size-requires-clause-t_in_bounds_2 c =
    let a = c.loop-part.invariant c.requires in
    let set = c.args.set in
    omega (arith, adds-within (passed-rule a c.in-Some.ensures.steps) set.bytes.now set.count, a.made.long, c.requires.asked.fits)

pub overflow_add-to : goal.overflow_add-to
overflow_add-to c =
    let a = c.loop-part.invariant c.requires in
    let set = c.args.set in
    let few = adds-few (passed-rule a c.in-Some.ensures.steps) set.bytes.now set.count in
    omega (arith, few, ap length c.requires.bytes, a.made.long, c.write_remainder-size.ensures.value)

pub overflow_add-made : goal.overflow_add-made
overflow_add-made c =
    let a = c.loop-part.invariant c.requires in
    let set = c.args.set in
    let few = rules-few (passed-rule a c.in-Some.ensures.steps) set.bytes.now set.count in
    omega (arith, few, c.requires.asked.few, a.made.counted, one-few _ _ c.count_record-made.ensures)

pub loop-part-preserved : goal.loop-part-preserved
loop-part-preserved c =
    let l = c.loop-part in
    let set = c.args.set in
    let written = c.write_remainder-size in
    let u = key_set set.bytes.now set.count in
    passing-next l.invariant c.in-Some.ensures.steps (Made u c.args.out.now _ (l.made + c.count_record-made.result) (l.to + written.result))
    (λ w a m. made-next set.bytes.now set.count m a.made written.ensures.out_after _ _ written.ensures.value c.count_record-made.ensures)

pub overflow_cast-made : goal.overflow_cast-made
overflow_cast-made c =
    let w = c.requires in
    let u = key_set c.args.set.bytes.now c.args.set.count in
    let made = passed-end (c.loop-part.invariant w) c.in-None.ensures.steps in
    omega (arith, made.counted, rules-left u w.program, w.asked.few)

pub write_end-requires : goal.write_end-requires
write_end-requires c =
    let w = c.requires in
    let u = key_set c.args.set.bytes.now c.args.set.count in
    let made = passed-end (c.loop-part.invariant w) c.in-None.ensures.steps in
    omega (arith, made.long, length-quotient u w.program, w.asked.fits)

pub overflow_add-result : goal.overflow_add-result
overflow_add-result c =
    let w = c.requires in
    let u = key_set c.args.set.bytes.now c.args.set.count in
    let made = passed-end (c.loop-part.invariant w) c.in-None.ensures.steps in
    omega (arith, made.long, length-quotient u w.program, w.asked.fits)

pub returns-clause-value : goal.returns-clause-value
returns-clause-value c w =
    let u = key_set c.args.set.bytes.now c.args.set.count in
    omega (arith, (passed-end (c.loop-part.invariant w) c.in-None.ensures.steps).long, length-quotient u w.program)

pub returns-clause-out_after : goal.returns-clause-out_after
returns-clause-out_after c w = made-end (passed-end (c.loop-part.invariant w) c.in-None.ensures.steps) c.write_end.ensures
