-- `force::propagate` meets its contract: a sweep that changes a bound leaves fewer literals open.
use Rattle.check_force.specs.Code.{Model}
use Rattle.check_force.proofs.Laws.Narrow.{less-open-must, less-open-may, swept}
use Rattle.check_force.proofs.force.propagate.Goals as goal
use Rattle.check_force.proofs.force.propagate.Goals.{else-next-was-via-then-next-was+else-next-was-2, else-next-was-via-else-next-was}

pub loop-next-smaller : goal.loop-next-smaller
loop-next-smaller c =
    let v = c.in_ok-next.ensures.kept in
    let w = c.loop-next.invariant.inside c.requires in
    elim c.else-next-was.branch [
      | else-next-was-via-then-next-was+else-next-was-2 x ↦ less-open-may {P = Model c.args.whole c.args.clauses.now} v w x.if-next-was-2.false
      | else-next-was-via-else-next-was x ↦ less-open-must {P = Model c.args.whole c.args.clauses.now} v w x.if-next-was.false
    ]

pub loop-next-preserved : goal.loop-next-preserved
loop-next-preserved c = swept c.loop-next.invariant c.in_ok-next.ensures.kept
