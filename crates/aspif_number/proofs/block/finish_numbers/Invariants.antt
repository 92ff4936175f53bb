-- `block::finish_numbers`: the first k numbers are finished, and the others are as they came.
-- Assumes nothing.
use Rattle.aspif_number.proofs.Laws.Finish.{Finishing}
use Rattle.aspif_number.proofs.block.finish_numbers.Given as goal

abbrev pub invariant-loop-k : goal.invariant-loop-k
invariant-loop-k l = Finishing l.masks l.initial.numbers l.numbers l.k
