-- `step::read_literals` meets its contract: each literal that is right leaves the run behind it.
-- Assumes nothing.
use Rattle.std.proofs.Common.{arith, ◌+◌, ◌-◌, ◌*◌, ℕ, sym, ap, ap₂, ◌∙◌}
use borrow.Author.Rules.{part_to_end}
use Rattle.literal.specs.Literal.{decoded}
use Rattle.literal.specs.Code.{is_valid}
use Rattle.literal.proofs.Laws.Literal.{valid-some, valid-none}
use Rattle.record.specs.Reading.{literals_at}
use Rattle.record.specs.Code.{run_of}
use Rattle.record.proofs.Laws.Literals.{run-valid, run-wrong, run-nil}
use Rattle.record_step.proofs.step.read_literals.Goals as goal

pub loop-i-init : goal.loop-i-init
loop-i-init c = ap₂ (λ (p n : ℕ). run_of (literals_at c.args.lim c.args.t.now p n)) (omega arith) (omega arith)

pub returns-then-not-is_literal : goal.returns-then-not-is_literal
returns-then-not-is_literal c =
    let a = c.args in
    let i = c.loop-i.i in
    let wrong = ap (λ bs. is_valid (decoded a.lim bs)) (sym (part_to_end a.t.now (7 + 5 * i))) ∙ sym c.is_literal.ensures ∙ c.if-not-is_literal.true in
    sym (c.loop-i.invariant ∙ run-wrong a.lim a.t.now (7 + 5 * i) (a.count - i) (omega (arith, c.loop-i-test.true)) (valid-none _ wrong))

pub loop-i-preserved : goal.loop-i-preserved
loop-i-preserved c =
    let a = c.args in
    let i = c.loop-i.i in
    let right = ap (λ bs. is_valid (decoded a.lim bs)) (sym (part_to_end a.t.now (7 + 5 * i))) ∙ sym c.is_literal.ensures ∙ c.if-not-is_literal.false in
    let one = valid-some _ right in
    c.loop-i.invariant ∙ run-valid a.lim a.t.now (7 + 5 * i) (a.count - i) one.0 (omega (arith, c.loop-i-test.true)) one.1
    ∙ ap₂ (λ (p n : ℕ). run_of (literals_at a.lim a.t.now p n)) (omega arith) (omega arith)

pub returns : goal.returns
returns c =
    let a = c.args in
    sym (c.loop-i.invariant ∙ run-nil a.lim a.t.now (7 + 5 * c.loop-i.i) (a.count - c.loop-i.i) (omega (arith, c.loop-i-test.false)))
