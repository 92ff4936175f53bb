-- `count::add` meets its contract.
-- Assumes nothing.
use Rattle.check_pick.proofs.Laws.Count.{tallied-is}
use Rattle.check_pick.proofs.count.add.Statement.{statement}
use Rattle.check_pick.proofs.count.add.Tie as tie

returns : tie.Need-returns
returns c = tallied-is _ _

pub add_spec : {M : Type 1} → statement M
add_spec = tie.close (tie.spec returns)
