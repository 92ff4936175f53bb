-- Each record's rule is written behind those before it, and at the end all is the translation.
use Rattle.std.proofs.Common.{rules, arith, ◌+◌}
use Rattle.record_walk.proofs.Laws.Records.{passing-start, passed-rule, passing-next, passed-end}
use Rattle.translate.proofs.Laws.Pass.{length-bytes, adds-within, adds-few, next-nafs, made-few, Made, made-start, made-next, made-end}
use Rattle.translate.proofs.pass.write_rules.Goals as goal

pub loop-i-init : goal.loop-i-init
loop-i-init c =
    passing-start c.args.s.now _ (Made c.args.out.now c.args.out.now _ 0 0) (search rules) (made-start c.args.out.now _ (search rules))

pub overflow_cast-i : goal.overflow_cast-i
overflow_cast-i c =
    let a = c.loop-i.invariant c.requires in
    let s = c.in-Some.ensures.steps in
    omega (arith, (adds-few (passed-rule a s.0) c.requires.asked.translatable).numbers, a.made.numbered)

pub overflow_add-i : goal.overflow_add-i
overflow_add-i c =
    let a = c.loop-i.invariant c.requires in
    let s = c.in-Some.ensures.steps in
    omega (arith, (adds-few (passed-rule a s.0) c.requires.asked.translatable).numbers, a.made.numbered)

pub write_rule-requires-clause-s_in_bounds : goal.write_rule-requires-clause-s_in_bounds
write_rule-requires-clause-s_in_bounds c =
    let a = c.loop-i.invariant c.requires in
    (passed-rule a c.in-Some.ensures.steps.0).whole

pub write_rule-requires-clause-s_bound : goal.write_rule-requires-clause-s_bound
write_rule-requires-clause-s_bound c =
    let a = c.loop-i.invariant c.requires in
    omega (arith, next-nafs (passed-rule a c.in-Some.ensures.steps.0) c.requires.asked.translatable)

pub write_rule-requires-clause-s_in_bounds_2 : goal.write_rule-requires-clause-s_in_bounds_2
write_rule-requires-clause-s_in_bounds_2 c =
    let a = c.loop-i.invariant c.requires in
    omega (arith, adds-within (passed-rule a c.in-Some.ensures.steps.0), c.requires.asked.fits, a.made.long)

pub measure_rule-to-requires : goal.measure_rule-to-requires
measure_rule-to-requires c =
    let a = c.loop-i.invariant c.requires in
    omega (arith, (passed-rule a c.in-Some.ensures.steps.0).whole)

pub count_rules-made-requires : goal.count_rules-made-requires
count_rules-made-requires c =
    let a = c.loop-i.invariant c.requires in
    omega (arith, (passed-rule a c.in-Some.ensures.steps.0).whole)

pub overflow_add-to : goal.overflow_add-to
overflow_add-to c =
    let a = c.loop-i.invariant c.requires in
    omega (arith, (adds-few (passed-rule a c.in-Some.ensures.steps.0) c.requires.asked.translatable).bytes, a.made.long)

pub overflow_add-made : goal.overflow_add-made
overflow_add-made c =
    let a = c.loop-i.invariant c.requires in
    omega (arith, (adds-few (passed-rule a c.in-Some.ensures.steps.0) c.requires.asked.translatable).rules, a.made.counted)

pub loop-i-preserved : goal.loop-i-preserved
loop-i-preserved c =
    let l = c.loop-i in
    let s = c.in-Some.ensures.steps in
    passing-next l.invariant s.0 (Made c.args.out.now _ _ (l.made + c.count_rules-made.result) (l.to + c.measure_rule-to.result))
    (λ w a m. made-next m a.made _ _ s.1 s.2 (c.write_rule.ensures m.the-rule m.starts) _ _ c.count_rules-made.ensures c.measure_rule-to.ensures)

pub overflow_cast-made : goal.overflow_cast-made
overflow_cast-made c =
    let a = c.loop-i.invariant c.requires in
    omega (arith, made-few a.ahead c.requires.asked.translatable, a.made.counted)

pub write_end-requires : goal.write_end-requires
write_end-requires c =
    let w = c.requires in
    let made = passed-end (c.loop-i.invariant w) c.in-None.ensures.steps.0 in
    omega (arith, made.long, length-bytes w.program, w.asked.fits)

pub returns : goal.returns
returns c w = made-end (passed-end (c.loop-i.invariant w) c.in-None.ensures.steps.0) c.write_end.ensures
