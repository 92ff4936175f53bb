-- `force::pass` meets its contract: a clause more narrows the bounds further, or leaves nothing between them.
use Rattle.check_force.proofs.Laws.Pass.{pass_step, pass-dead}
use Rattle.check_force.proofs.force.pass.Goals as goal

pub loop-c-preserved : goal.loop-c-preserved
loop-c-preserved c =
    let a = c.args in
    let l = c.loop-c in
    pass_step a.whole a.clauses.now l.c-index _ c.loop-c-test.true l.invariant c.in_ok-now-2.ensures

pub returns-in_err-now-2 : goal.returns-in_err-now-2
returns-in_err-now-2 c =
    let a = c.args in
    let l = c.loop-c in
    rw c.from_residual-in_err-now-2.ensures
    (pass-dead a.whole a.clauses.now l.c-index _ c.loop-c-test.true l.invariant c.in_err-now-2.ensures)
