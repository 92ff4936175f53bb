-- Each record adds what its rule becomes, and at the end that is the translation.
use Rattle.std.proofs.Common.{arith, rules, ◌≡◌, ◌+◌, ◌∙◌, sym, length}
use Rattle.record_walk.proofs.Laws.Records.{passing-start, passed-rule, passing-next, passed-end}
use Rattle.translate.proofs.Laws.Pass.{bytes_of, bytes-none, length-bytes, adds_bytes, adds-few}
use Rattle.translate.proofs.pass.measure_rules.Goals as goal

pub loop-part-init : goal.loop-part-init
loop-part-init c =
    passing-start c.args.s.now _ (λ gone. 4 ≡ 4 + length (bytes_of gone)) (search rules) (omega (arith, bytes-none))

pub measure_rule-total-requires : goal.measure_rule-total-requires
measure_rule-total-requires c =
    let a = c.loop-part.invariant c.requires in
    omega (arith, (passed-rule a c.in-Some.ensures.steps).whole)

pub overflow_add-total : goal.overflow_add-total
overflow_add-total c =
    let a = c.loop-part.invariant c.requires in
    let few = adds-few (passed-rule a c.in-Some.ensures.steps) c.requires.asked in
    omega (arith, few.bytes, a.made)

pub loop-part-preserved : goal.loop-part-preserved
loop-part-preserved c =
    passing-next c.loop-part.invariant c.in-Some.ensures.steps
    (λ gone. c.loop-part.total + c.measure_rule-total.result ≡ 4 + length (bytes_of gone)) (λ w a m. omega (arith, a.made, adds_bytes m))

pub returns : goal.returns
returns c w = passed-end (c.loop-part.invariant w) c.in-None.ensures.steps ∙ sym (length-bytes w.program)
