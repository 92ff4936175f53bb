-- `quotient::quotient_plain` meets its contract: the form's figures fit two bytes each.
-- Assumes nothing.
use mathlib.Core.Path.{◌≡◌, sym, subst}
use borrow.Author.Rules.{rules}
use Rattle.literal.specs.declared.Limits.{Limits}
use Rattle.literal.specs.Limits.{plain}
use Rattle.record.proofs.Laws.Meant.{plain-unsheeted}
use Rattle.quotient.specs.Code.{Sized}
use Rattle.quotient.proofs.Laws.Quotient.{met-same, sized-plain}
use Rattle.quotient.proofs.quotient.quotient_plain.Statement.{statement}
use Rattle.quotient.proofs.quotient.quotient_plain.Tie as tie

divide-requires : tie.Need-divide-requires
divide-requires c κs =
    let same = sym c.limits.ensures in
    (subst Sized same sized-plain, subst (λ (F : Limits). F.sheets ≡ 0) same plain-unsheeted)

returns : tie.Need-returns
returns c =
    let a = c.args in
    met-same c.limits.result plain a.s.now a.k.now a.out.now c.limits.ensures c.divide.ensures

pub quotient_plain_spec : {M : Type 1} → statement M
quotient_plain_spec = tie.close (tie.spec (λ c κs. search rules) divide-requires (λ c. search rules) returns)
