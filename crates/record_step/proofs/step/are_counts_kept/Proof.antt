-- `step::are_counts_kept` meets its contract: each return rewrites by the tests that led there.
-- Assumes nothing.
use borrow.Author.Tests.{le-leb, lt-leb}
use Rattle.semantics.specs.Form.{keeps_counts}
use Rattle.record_step.proofs.step.are_counts_kept.Statement.{statement}
use Rattle.record_step.proofs.step.are_counts_kept.Tie as tie

returns : tie.Need-returns-then-lim-heads
unfolding keeps_counts
returns c = simp (lt-leb _ _ c.if-lim-heads.true)

returns-2 : tie.Need-returns-then-lim-positives
unfolding keeps_counts
returns-2 c = simp (le-leb _ _ c.if-lim-heads.false, lt-leb _ _ c.if-lim-positives.true)

returns-3 : tie.Need-returns
unfolding keeps_counts
returns-3 c = simp (le-leb _ _ c.if-lim-heads.false, le-leb _ _ c.if-lim-positives.false)

pub are_counts_kept_spec : {M : Type 1} → statement M
are_counts_kept_spec = tie.close (tie.spec returns returns-2 returns-3)
