-- `append::write_way` meets its contract: nothing is written, or one record.
-- Assumes nothing.
use native.Mathlib.Omega.{arith}
use mathlib.Core.Path.{sym, ◌∙◌}
use borrow.Author.Rules.{rules}
use Rattle.expand_rules.proofs.Laws.Defeat.{way-room, way-skipped, way-written}
use Rattle.expand_rules.proofs.append.write_way.Statement.{statement}
use Rattle.expand_rules.proofs.append.write_way.Tie as tie

returns : tie.Need-returns-then-not-is_new
returns c =
    let a = c.args in
    way-skipped a.w a.v a.same a.i a.t a.k a.l a.out.now a.to (sym c.is_new.ensures ∙ c.if-not-is_new.true)

-- it is new, and has room
write-defeat-requires : tie.Need-write_defeat-requires
write-defeat-requires c κs =
    let a = c.args in
    omega (
      arith,
      c.requires.1,
      way-room a.w a.v a.same a.i a.t a.k a.l (sym c.is_new.ensures ∙ c.if-not-is_new.false),
    )

returns-2 : tie.Need-returns
returns-2 c =
    let a = c.args in
    way-written a.w a.v a.same a.i a.t a.k a.l a.out.now _ a.to _ _
    (sym c.is_new.ensures ∙ c.if-not-is_new.false) c.option_of.ensures c.option_of-2.ensures
    c.write_defeat.ensures

pub write_way_spec : {M : Type 1} → statement M
write_way_spec =
    tie.close (tie.spec (λ c κs. search rules) returns (λ c κs. search rules) (λ c κs. search rules) write-defeat-requires (λ c. search rules)
    (λ c. search rules) returns-2)
