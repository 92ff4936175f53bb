-- `range::are_in_ranges` meets its contract: each return rewrites by the tests that led there.
-- Assumes nothing.
use borrow.Author.Rules.{rules}
use borrow.Author.Tests.{le-leb, lt-leb}
use Rattle.literal.specs.Code.{in_span}
use Rattle.literal_decode.proofs.range.are_in_ranges.Statement.{statement}
use Rattle.literal_decode.proofs.range.are_in_ranges.Tie as tie

returns : tie.Need-returns-then-t-bounds
unfolding in_span
returns c = rw (lt-leb _ _ c.if-t-bounds.true)

returns-2 : tie.Need-returns-then-bounds-t
unfolding in_span
returns-2 c = rw (le-leb _ _ c.if-t-bounds.false, lt-leb _ _ c.if-bounds-t.true)

returns-3 : tie.Need-returns
unfolding in_span
returns-3 c =
    rw (le-leb _ _ c.if-t-bounds.false, le-leb _ _ c.if-bounds-t.false) c.is_in_range.ensures

pub are_in_ranges_spec : {M : Type 1} → statement M
are_in_ranges_spec = tie.close (tie.spec (λ c. search rules) returns returns-2 (λ c κs. search rules) returns-3)
