-- The clauses passed have narrowed the bounds.
use Rattle.check_force.proofs.Laws.Pass.{Swept}
use Rattle.check_force.proofs.force.pass.Given as goal

abbrev pub invariant-loop-c : goal.invariant-loop-c
invariant-loop-c l = Swept l.whole l.clauses l.c-index l.fn.was.must l.fn.was.may l.now
