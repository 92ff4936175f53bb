-- `pass::write_blocks`: the lines of the rules that are gone are written. Measure: the rules left.
-- Assumes nothing.
use Rattle.std.proofs.Common.{length}
use Rattle.record_walk.proofs.Laws.Walk.{Pass}
use Rattle.aspif.specs.Code.{Fitting}
use Rattle.aspif.proofs.Laws.Blocks.{Written}
use Rattle.aspif.proofs.pass.write_blocks.Given as goal

abbrev pub invariant-loop-left : goal.invariant-loop-left
invariant-loop-left l =
    Pass (Fitting l.rules l.numbering l.to (length l.initial.out)) l.s l.at (Written l.numbering l.initial.out l.out l.to l.next l.rules l.left)

abbrev pub decreases-loop-left : goal.decreases-loop-left
decreases-loop-left l = l.left
