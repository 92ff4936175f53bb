-- `pass::count_record` meets its contract.
-- Assumes nothing.
use borrow.Author.Tests.{eq-eqb, ne_eqb}
use Rattle.quotient.proofs.pass.count_record.Statement.{statement}
use Rattle.quotient.proofs.pass.count_record.Tie as tie

returns : tie.Need-returns-then-size-eq0
returns c = rw (eq-eqb _ _ c.if-size-eq0.true)

returns-2 : tie.Need-returns-else-size-eq0
returns-2 c = rw (ne_eqb _ _ c.if-size-eq0.false)

pub count_record_spec : {M : Type 1} → statement M
count_record_spec = tie.close (tie.spec returns returns-2)
