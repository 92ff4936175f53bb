-- `step::is_head_signed` meets its contract: each kind byte of a signed atom leaves those behind it.
-- Assumes nothing.
use Rattle.std.proofs.Common.{arith, ◌+◌, ◌-◌, ◌*◌, ℕ, sym, ap₂, ◌∙◌}
use Rattle.record.specs.Code.{signed_kinds}
use Rattle.record.proofs.Laws.Literals.{kinds-signed, kinds-marked, kinds-nil}
use Rattle.record_step.proofs.step.is_head_signed.Goals as goal

pub loop-i-init : goal.loop-i-init
loop-i-init c = ap₂ (λ (p n : ℕ). signed_kinds c.args.t.now p n) (omega arith) (omega arith)

pub returns-then-t-i-gt1 : goal.returns-then-t-i-gt1
returns-then-t-i-gt1 c =
    let a = c.args in
    let i = c.loop-i.i in
    sym (c.loop-i.invariant ∙ kinds-marked a.t.now (7 + 5 * i) (a.heads - i) (omega (arith, c.loop-i-test.true)) c.if-t-i-gt1.true)

pub loop-i-preserved : goal.loop-i-preserved
loop-i-preserved c =
    let a = c.args in
    let i = c.loop-i.i in
    c.loop-i.invariant ∙ kinds-signed a.t.now (7 + 5 * i) (a.heads - i) (omega (arith, c.loop-i-test.true)) c.if-t-i-gt1.false
    ∙ ap₂ (λ (p n : ℕ). signed_kinds a.t.now p n) (omega arith) (omega arith)

pub returns : goal.returns
returns c = let i = c.loop-i.i in sym (c.loop-i.invariant ∙ kinds-nil c.args.t.now (7 + 5 * i) (c.args.heads - i) (omega (arith, c.loop-i-test.false)))
