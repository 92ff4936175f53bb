-- What the set leaves of the rules that are gone is written, counted and measured.
use Rattle.std.proofs.Common.{length}
use Rattle.record_walk.proofs.Laws.Records.{Passing}
use Rattle.set.specs.Code.{key_set}
use Rattle.quotient.specs.Code.{Fitting}
use Rattle.quotient.proofs.Laws.Pass.{Made}
use Rattle.quotient.proofs.pass.write_quotient.Given as goal

abbrev pub invariant-loop-part : goal.invariant-loop-part
invariant-loop-part l =
    let u = key_set l.set.bytes.now l.set.count in
    Passing (Fitting u (length l.fn.out)) l.s l.part-iterator.rest.now (Made u l.fn.out l.out l.made l.to)
