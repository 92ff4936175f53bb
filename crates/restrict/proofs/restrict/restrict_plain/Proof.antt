-- `restrict::restrict_plain` meets its contract: the limits are those of plain sets.
-- Assumes nothing.
use borrow.Author.Rules.{rules}
use Rattle.literal.specs.Limits.{plain}
use Rattle.restrict.proofs.Laws.Restrict.{restricted-same}
use Rattle.restrict.proofs.restrict.restrict_plain.Statement.{statement}
use Rattle.restrict.proofs.restrict.restrict_plain.Tie as tie

returns : tie.Need-returns
returns c =
    let a = c.args in
    restricted-same c.limits.result plain a.k.now a.out.now c.limits.ensures c.restrict.ensures

pub restrict_plain_spec : {M : Type 1} → statement M
restrict_plain_spec = tie.close (tie.spec (λ c κs. search rules) (λ c κs. search rules) (λ c. search rules) returns)
