-- Each record adds what is left of its rule, and at the end that is the quotient.
use Rattle.std.proofs.Common.{arith, rules, ◌≡◌, ◌+◌, ◌∙◌, ap, sym, length}
use Rattle.record_walk.proofs.Laws.Records.{passing-start, passed-rule, passing-next, passed-end}
use Rattle.set.specs.Code.{key_set}
use Rattle.quotient.proofs.Laws.Program.{left_bytes, left-none, length-quotient}
use Rattle.quotient.proofs.Laws.Pass.{adds_bytes, adds-few}
use Rattle.quotient.proofs.pass.measure_quotient.Goals as goal

pub loop-part-init : goal.loop-part-init
loop-part-init c =
    let u = key_set c.args.set.bytes.now c.args.set.count in
    passing-start c.args.s.now _ (λ gone. 4 ≡ 4 + length (left_bytes u gone)) (search rules) (omega (arith, (left-none u).0))

pub measure_remainder-total-requires : goal.measure_remainder-total-requires
measure_remainder-total-requires c =
    let a = c.loop-part.invariant c.requires in
    omega (arith, (passed-rule a c.in-Some.ensures.steps).whole)

pub overflow_add-total : goal.overflow_add-total
overflow_add-total c =
    let a = c.loop-part.invariant c.requires in
    let set = c.args.set in
    let few = adds-few (passed-rule a c.in-Some.ensures.steps) set.bytes.now set.count in
    omega (arith, few, ap length c.requires.bytes, a.made, c.measure_remainder-total.ensures)

pub loop-part-preserved : goal.loop-part-preserved
loop-part-preserved c =
    let set = c.args.set in
    passing-next c.loop-part.invariant c.in-Some.ensures.steps
    (λ gone. c.loop-part.total + c.measure_remainder-total.result ≡ 4 + length (left_bytes (key_set set.bytes.now set.count) gone))
    (λ w a m. omega (arith, a.made, adds_bytes m set.bytes.now set.count, c.measure_remainder-total.ensures))

pub returns : goal.returns
returns c w =
    passed-end (c.loop-part.invariant w) c.in-None.ensures.steps ∙ sym (length-quotient (key_set c.args.set.bytes.now c.args.set.count) w.program)
