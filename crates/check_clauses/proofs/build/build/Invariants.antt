-- The rules that are gone are counted, there are no more clauses than rules, and for each set that the slice holds none of them is broken
-- and their clauses are written.
use Rattle.buffer.specs.Bytes.{Bytes}
use Rattle.record_walk.specs.Code.{Any}
use Rattle.record_walk.proofs.Laws.Records.{Passing}
use Rattle.check_clauses.proofs.Laws.Build.{Counted, Building}
use Rattle.check_clauses.proofs.build.build.Given as goal

abbrev pub invariant-loop-i : goal.invariant-loop-i
invariant-loop-i l =
    let rest = l.i-iterator.iter.rest.now in
    record {
      bytes : Bytes rest;
      counted : Passing Any l.s rest (Counted l.i-iterator.count l.count);
      building : Building l.s l.set.set.bytes.now l.set.set.count l.clauses rest l.i-iterator.count l.count;
    }
