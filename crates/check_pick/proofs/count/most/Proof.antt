-- `count::most` meets its contract, digit by digit.
-- Assumes nothing.
use borrow.Author.Rules.{rules}
use Rattle.check_pick.proofs.Laws.Count.{most-steps}
use Rattle.check_pick.proofs.count.most.Statement.{statement}
use Rattle.check_pick.proofs.count.most.Tie as tie

returns : tie.Need-returns
returns c =
    let a = c.args in
    most-steps a.t a.m c.refine-m7.ensures c.refine-m6.ensures c.refine-m5.ensures c.refine-m4.ensures c.refine-m3.ensures
    c.refine-m2.ensures c.refine-m1.ensures c.refine.ensures

pub most_spec : {M : Type 1} → statement M
most_spec =
    tie.close (tie.spec (λ c κs. search rules) (λ c κs. search rules) (λ c κs. search rules) (λ c κs. search rules) (λ c κs. search rules)
    (λ c κs. search rules) (λ c κs. search rules) (λ c κs. search rules) returns)
