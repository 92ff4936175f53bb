-- `options::tag_at` meets its contract: the number behind the mark.
-- Assumes nothing.
use mathlib.Core.Path.{ap}
use borrow.Author.Rules.{rules}
use Rattle.record_walk.specs.Code.{tag_at}
use Rattle.record_walk.proofs.options.tag_at.Statement.{statement}
use Rattle.record_walk.proofs.options.tag_at.Tie as tie

returns : tie.Need-returns
unfolding tag_at
returns c = ap (λ n. record { 0 = n }) c.get_tag.ensures

pub tag_at_spec : {M : Type 1} → statement M
tag_at_spec = tie.close (tie.spec (λ c κs. search rules) returns)
