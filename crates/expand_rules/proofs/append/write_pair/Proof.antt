-- `append::write_pair` meets its contract: one way, and the other behind it.
-- Assumes nothing.
use native.Mathlib.Omega.{arith}
use borrow.Author.Rules.{rules}
use Rattle.expand_rules.proofs.Laws.Defeat.{length-pair, pair-written}
use Rattle.expand_rules.proofs.append.write_pair.Statement.{statement}
use Rattle.expand_rules.proofs.append.write_pair.Tie as tie

write-way-requires : tie.Need-write_way-next-requires
write-way-requires c κs =
    let a = c.args in
    (c.requires.0, omega (arith, c.requires.1.1.1.1.1, length-pair a.win.now a.lose.now a.same a.i a.t a.k a.l))

write-way-requires-2 : tie.Need-write_way-requires
write-way-requires-2 c κs =
    let a = c.args in (
      c.requires.0,
      omega (
        arith,
        c.requires.1.1.1.1.1,
        c.write_way-next.ensures.next,
        c.write_way-next.auto.out,
        length-pair a.win.now a.lose.now a.same a.i a.t a.k a.l,
      ),
    )

returns : tie.Need-returns
returns c =
    let a = c.args in
    pair-written a.win.now a.lose.now a.same a.i a.t a.k a.l (omega (arith, c.requires.1.1.1.1.1))
    c.write_way-next.ensures c.write_way.ensures

pub write_pair_spec : {M : Type 1} → statement M
write_pair_spec =
    tie.close (tie.spec (λ c. search rules) (λ c. search rules) (λ c. search rules) (λ c. search rules) write-way-requires (λ c. search rules)
    (λ c. search rules) (λ c. search rules) (λ c. search rules) write-way-requires-2 (λ c. search rules) returns)
