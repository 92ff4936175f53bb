-- The sweeps have narrowed the bounds; each that goes on leaves fewer literals open.
use Rattle.check_force.specs.Code.{Model, Kept}
use Rattle.check_force.proofs.Laws.Narrow.{open-count}
use Rattle.check_force.proofs.force.propagate.Given as goal

abbrev pub invariant-loop-next : goal.invariant-loop-next
invariant-loop-next l = Kept (Model l.whole l.clauses) l.fn.start.must l.fn.start.may l.was

abbrev pub decreases-loop-next : goal.decreases-loop-next
decreases-loop-next l = open-count l.was.must l.was.may
