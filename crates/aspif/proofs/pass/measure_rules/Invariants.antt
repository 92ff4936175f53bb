-- `pass::measure_rules`: the total is the length of the lines of the rules that are gone.
-- Assumes nothing.
use Rattle.record_walk.proofs.Laws.Records.{Passing}
use Rattle.aspif.specs.Code.{Numberable}
use Rattle.aspif.proofs.Laws.Pass.{Measured}
use Rattle.aspif.proofs.pass.measure_rules.Given as goal

abbrev pub invariant-loop-part : goal.invariant-loop-part
invariant-loop-part l = Passing Numberable l.s l.part-iterator.rest.now (Measured l.numbering l.s l.part-iterator.rest.now l.total)
