-- `step::is_tag_right` meets its contract: a case for each kind of rule.
-- Assumes nothing.
use borrow.Author.Rules.{rules}
use Rattle.record.specs.Reading.{tag_right}
use Rattle.record_step.proofs.step.is_tag_right.Statement.{statement}
use Rattle.record_step.proofs.step.is_tag_right.Tie as tie

returns : tie.Need-returns-then-defeasible
unfolding tag_right
returns c = rw c.if-defeasible.true c.is_tag.ensures

returns-2 : tie.Need-returns-else-defeasible
unfolding tag_right
returns-2 c = rw c.if-defeasible.false

pub is_tag_right_spec : {M : Type 1} → statement M
is_tag_right_spec = tie.close (tie.spec (λ c κs. search rules) returns returns-2)
