-- `append::write_defeat` meets its contract: a header, and two literals behind it.
-- Assumes nothing.
use borrow.Author.Rules.{rules}
use Rattle.expand_rules.proofs.Laws.Defeat.{defeat-written}
use Rattle.expand_rules.proofs.append.write_defeat.Statement.{statement}
use Rattle.expand_rules.proofs.append.write_defeat.Tie as tie

returns : tie.Need-returns
returns c =
    let a = c.args in
    defeat-written a.out.now _ _ _ a.to a.lower a.loser a.winner c.requires c.write_header.ensures
    c.encode.ensures c.encode-2.ensures

pub write_defeat_spec : {M : Type 1} → statement M
write_defeat_spec =
    tie.close (tie.spec (λ c κs. search rules) (λ c. search rules) (λ c κs. search rules) (λ c. search rules) (λ c κs. search rules)
    (λ c. search rules) returns)
