-- `alone::read_marked` meets its contract: what the front tells, or how long the literals make the record.
-- Assumes nothing.
use Rattle.std.proofs.Common.{arith, refl, sym, ap, ◌∙◌, Ok, Err}
use Rattle.std.proofs.lemmas.Result.{err_from_is_err_and}
use mathlib.Core.Bool.{true≢false}
use Rattle.record.specs.Reading.{rules_held}
use Rattle.record.proofs.Laws.Only.{end-sized, refused-sized}
use Rattle.record_step.proofs.Laws.Front.{front-refused, front-end, front-literals, front-other, literals-size, other-unruled}
use Rattle.record_rule.proofs.alone.read_marked.Goals as goal

pub returns-in_err-defeasible : goal.returns-in_err-defeasible
returns-in_err-defeasible c =
    let p = err_from_is_err_and c.from_residual.result c.from_residual.ensures.1 in
    p.1 ∙ ap Err p.2 ∙ sym (refused-sized _ _ (front-refused _ _ _ _ _ c.in_err-defeasible.was (c.read_front.ensures (rules_held c.args.held) refl)))

pub bounds-t-4 : goal.bounds-t-4
bounds-t-4 c =
    let left = front-literals _ _ _ _ _ (c.in_ok-defeasible.was ∙ ap Ok c.in-Literals.is) (c.read_front.ensures (rules_held c.args.held) refl) in
    omega (arith, left.whole)

pub bounds-t-5 : goal.bounds-t-5
bounds-t-5 c =
    let left = front-literals _ _ _ _ _ (c.in_ok-defeasible.was ∙ ap Ok c.in-Literals.is) (c.read_front.ensures (rules_held c.args.held) refl) in
    omega (arith, left.whole)

pub bounds-t-6 : goal.bounds-t-6
bounds-t-6 c =
    let left = front-literals _ _ _ _ _ (c.in_ok-defeasible.was ∙ ap Ok c.in-Literals.is) (c.read_front.ensures (rules_held c.args.held) refl) in
    omega (arith, left.whole)

pub returns-in-Literals : goal.returns-in-Literals
returns-in-Literals c =
    let left = front-literals _ _ _ _ _ (c.in_ok-defeasible.was ∙ ap Ok c.in-Literals.is) (c.read_front.ensures (rules_held c.args.held) refl) in
    literals-size _ _ _ _ left _ c.read_body.ensures

pub returns-in-End : goal.returns-in-End
returns-in-End c =
    c.refuse.ensures ∙ sym (end-sized _ (front-end _ _ _ _ (c.in_ok-defeasible.was ∙ ap Ok c.in-End.is) (c.read_front.ensures (rules_held c.args.held) refl)))

-- a rule's mark is no other's
pub returns-in-Other : goal.returns-in-Other
returns-in-Other c =
    let other = front-other _ _ _ _ (c.in_ok-defeasible.was ∙ ap Ok c.in-Other.is) (c.read_front.ensures (rules_held c.args.held) refl) in
    absurd (true≢false (sym c.requires ∙ other-unruled _ other.other))
