-- The model at hand is between the bounds, and the first of the models between them is the first of all; each step leaves fewer literals open.
use Rattle.check_force.specs.Code.{Model}
use Rattle.check_force.proofs.Laws.Narrow.{open-count}
use Rattle.check_search.proofs.Laws.Lower.{Lowered}
use Rattle.check_search.proofs.find.lower.Given as goal

abbrev pub invariant-loop-now : goal.invariant-loop-now
invariant-loop-now l = Lowered (Model l.whole l.clauses) l.whole l.now.must l.now.may l.model

abbrev pub decreases-loop-now : goal.decreases-loop-now
decreases-loop-now l = open-count l.now.must l.now.may
