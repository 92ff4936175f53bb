-- `count::refine` meets its contract.
-- Assumes nothing.
use Rattle.check_pick.proofs.Laws.Count.{refined-none, refined-kept}
use Rattle.check_pick.proofs.count.refine.Statement.{statement}
use Rattle.check_pick.proofs.count.refine.Tie as tie

returns : tie.Need-returns-then-kept-eq0
returns c = let a = c.args in refined-none a.m a.digit c.if-kept-eq0.true

returns-2 : tie.Need-returns
returns-2 c = let a = c.args in refined-kept a.m a.digit c.if-kept-eq0.false

pub refine_spec : {M : Type 1} → statement M
refine_spec = tie.close (tie.spec returns returns-2)
