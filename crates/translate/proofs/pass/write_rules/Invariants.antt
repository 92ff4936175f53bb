-- What is written, counted and measured is what the rules that are gone become.
use Rattle.std.proofs.Common.{length}
use Rattle.record_walk.proofs.Laws.Records.{Passing}
use Rattle.translate.specs.Code.{Fitting}
use Rattle.translate.proofs.Laws.Pass.{Made}
use Rattle.translate.proofs.pass.write_rules.Given as goal

abbrev pub invariant-loop-i : goal.invariant-loop-i
invariant-loop-i l = Passing (Fitting (length l.fn.out)) l.s l.i-iterator.iter.rest.now (Made l.fn.out l.out l.i-iterator.count l.made l.to)
