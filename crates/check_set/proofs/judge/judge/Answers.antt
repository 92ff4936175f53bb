-- `judge::judge` meets its contract: each way out means what its search found.
use Rattle.std.proofs.Common.{sym, arith}
use Rattle.std.proofs.lemmas.List.{length-take-le}
use Rattle.check_set.proofs.Laws.Judge.{judge-long, judge-ascends, judge-few, judged-clash, judged-broken, judged-decided}
use Rattle.check_set.proofs.judge.judge.Goals as goal

pub invariant_of-set : goal.invariant_of-set
invariant_of-set c =
    record { fits = omega (arith, judge-long c.requires); ascends = judge-ascends c.requires; are_bytes = c.requires.set_bytes }

pub returns-in-Some : goal.returns-in-Some
returns-in-Some c = judged-clash c.requires c.args.out.now c.in-Some.ensures

pub slice_bounds-decide-end : goal.slice_bounds-decide-end
slice_bounds-decide-end c = omega (arith, judge-few c.requires c.in-Ok.ensures, c.build.auto.clauses)

pub slice_bounds-decide-end-in-Ok : goal.slice_bounds-decide-end-in-Ok
slice_bounds-decide-end-in-Ok c = sym (length-take-le _ _ (omega (arith, judge-few c.requires c.in-Ok.ensures, c.build.auto.clauses)))

pub returns-in-Err : goal.returns-in-Err
returns-in-Err c = judged-broken c.requires c.in_default.ensures c.build.new.clauses c.args.out.now c.in-Err.ensures

pub returns-in-Ok : goal.returns-in-Ok
returns-in-Ok c = judged-decided c.requires c.in_default.ensures c.build.new.clauses c.args.out.now c.in-Ok.ensures c.decide.ensures
