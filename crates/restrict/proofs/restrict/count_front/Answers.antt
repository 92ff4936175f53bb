-- `restrict::count_front` meets its contract: each literal of a source kind leaves those behind it.
-- Assumes nothing.
use Rattle.std.proofs.Common.{arith, ◌+◌, ◌-◌, ◌*◌, ◌≡◌, ℕ, sym, ap, ◌∙◌}
use Rattle.restrict.specs.Code.{source_front}
use Rattle.restrict.proofs.Laws.Front.{front-start, front-next, front-mark, front-end}
use Rattle.restrict.proofs.restrict.count_front.Goals as goal

pub loop-held-init : goal.loop-held-init
loop-held-init c = front-start c.args.k.now 4 c.args.count

pub returns-then-k-held-gt3 : goal.returns-then-k-held-gt3
returns-then-k-held-gt3 c =
    let l = c.loop-held in
    sym (l.invariant ∙ front-mark c.args.k.now (4 + 5 * l.held) l.held c.args.count c.if-k-held-gt3.true)

pub loop-held-preserved : goal.loop-held-preserved
loop-held-preserved c =
    let a = c.args in
    let l = c.loop-held in
    l.invariant ∙ front-next a.k.now (4 + 5 * l.held) l.held a.count c.loop-held-test.true (omega (arith, c.if-k-held-gt3.false))
    ∙ ap (λ (p : ℕ). l.held + 1 + source_front a.k.now p (a.count - (l.held + 1))) (omega arith)

pub returns : goal.returns
returns c =
    let a = c.args in
    let l = c.loop-held in
    let all : l.held ≡ a.count = omega (arith, c.loop-held-test.false, l.auto.held-end) in
    sym (l.invariant ∙ front-end a.k.now (4 + 5 * l.held) l.held a.count (omega (arith, all)) ∙ all)
