-- By the letter of the record's mark.
use native.Mathlib.Omega.{arith}
use Rattle.translate_rule.proofs.Laws.Rule.{written-defeasible, written-strict}
use Rattle.translate_rule.proofs.Laws.Sizes.{length-defeasible, length-strict}
use Rattle.translate_rule.proofs.rules.write_rule.Goals as goal

pub write_defeasible-requires : goal.write_defeasible-requires
write_defeasible-requires c =
    omega (arith, length-defeasible c.args.s.now c.if-s-eq68.true)

pub write_strict-requires : goal.write_strict-requires
write_strict-requires c =
    omega (arith, length-strict c.args.s.now c.if-s-eq68.false)

pub returns-then-s-eq68 : goal.returns-then-s-eq68
returns-then-s-eq68 c =
    let a = c.args in written-defeasible a.s.now a.n.0 a.out.now a.to _
    c.if-s-eq68.true c.write_defeasible.ensures

pub returns-else-s-eq68 : goal.returns-else-s-eq68
returns-else-s-eq68 c =
    let a = c.args in written-strict a.s.now a.n.0 a.out.now a.to _
    c.if-s-eq68.false c.write_strict.ensures
