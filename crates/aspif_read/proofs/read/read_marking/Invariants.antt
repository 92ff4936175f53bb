-- The reading is what the part from `at` on comes to with the rules held, and the places of the literals of the rules that are gone are marked;
-- the bytes left fall.
-- Assumes nothing.
use Rattle.std.proofs.Common.{◌-◌, length}
use Rattle.aspif_read.proofs.Laws.Program.{Going}
use Rattle.aspif_read.proofs.read.read_marking.Given as goal

abbrev pub invariant-loop-found : goal.invariant-loop-found
invariant-loop-found l = Going l.lim l.s l.initial.bits l.bits l.counts l.at l.held

abbrev pub decreases-loop-found : goal.decreases-loop-found
decreases-loop-found l = length l.s - l.at
