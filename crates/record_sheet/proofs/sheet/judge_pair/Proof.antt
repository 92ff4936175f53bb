-- `sheet::judge_pair` meets its contract, test by test.
-- Assumes nothing.
use mathlib.Core.Path.{sym, ◌∙◌, ap, ap₂}
use mathlib.Core.Bool.{Bool, true}
use borrow.Author.Rules.{rules}
use Rattle.record_sheet.specs.Code.{pair_step}
use Rattle.record_sheet.proofs.sheet.judge_pair.Statement.{statement}
use Rattle.record_sheet.proofs.sheet.judge_pair.Tie as tie

returns : tie.Need-returns-then-not-one
unfolding pair_step
returns c = let a = c.args in sym (ap (λ (x : Bool). pair_step x a.other a.same) (c.if-not-one.true))

returns-2 : tie.Need-returns-then-not-other
unfolding pair_step
returns-2 c =
    let a = c.args in
    sym (ap₂ (λ (x y : Bool). pair_step x y a.same) (c.if-not-one.false) (c.if-not-other.true))

returns-3 : tie.Need-returns-then-same
unfolding pair_step
returns-3 c =
    let a = c.args in
    c.refuse.ensures
    ∙ sym (ap₂ (λ (x y : Bool). pair_step x y a.same) (c.if-not-one.false) (c.if-not-other.false)
    ∙ ap (pair_step true true) c.if-same.true)

returns-4 : tie.Need-returns
unfolding pair_step
returns-4 c =
    let a = c.args in
    sym (ap₂ (λ (x y : Bool). pair_step x y a.same) (c.if-not-one.false) (c.if-not-other.false)
    ∙ ap (pair_step true true) c.if-same.false)

pub judge_pair_spec : {M : Type 1} → statement M
judge_pair_spec = tie.close (tie.spec returns returns-2 (λ c κs. search rules) returns-3 returns-4)
