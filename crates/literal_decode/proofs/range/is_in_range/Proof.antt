-- `range::is_in_range` meets its contract: two tests.
-- Assumes nothing.
use borrow.Author.Tests.{le-leb, lt-leb}
use Rattle.literal_decode.proofs.range.is_in_range.Statement.{statement}
use Rattle.literal_decode.proofs.range.is_in_range.Tie as tie

returns : tie.Need-returns-then-n-ge1
returns c = simp (le-leb _ _ c.if-n-ge1.true)

returns-2 : tie.Need-returns-else-n-ge1
returns-2 c = simp (lt-leb _ _ c.if-n-ge1.false)

pub is_in_range_spec : {M : Type 1} → statement M
is_in_range_spec = tie.close (tie.spec returns returns-2)
