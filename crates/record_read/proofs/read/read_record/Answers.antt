-- `read::read_record` meets its contract: what the front tells, or how long the literals make the record.
-- Assumes nothing.
use Rattle.std.proofs.Common.{arith, refl, ap, ◌∙◌, Ok, Err}
use Rattle.std.proofs.lemmas.Result.{err_from_is_err_and}
use Rattle.record.specs.declared.Held.{Held}
use Rattle.record_step.proofs.Laws.Front.{front-end, front-literals, front-other, literals-rule, literals-refused}
use Rattle.record_read.proofs.Laws.Run.{run-refuses}
use Rattle.record_read.proofs.read.read_record.Goals as goal

pub bounds-t-4 : goal.bounds-t-4
bounds-t-4 c =
    let some : Held = record { rules = c.args.rules; overrides = 0; oppositions = 0 } in
    omega (arith, (front-literals _ _ _ _ _ (c.in_ok-defeasible.was ∙ ap Ok c.in-Literals.is) (c.read_front.ensures some refl)).whole)

pub bounds-t-5 : goal.bounds-t-5
bounds-t-5 c =
    let some : Held = record { rules = c.args.rules; overrides = 0; oppositions = 0 } in
    omega (arith, (front-literals _ _ _ _ _ (c.in_ok-defeasible.was ∙ ap Ok c.in-Literals.is) (c.read_front.ensures some refl)).whole)

pub bounds-t-6 : goal.bounds-t-6
bounds-t-6 c =
    let some : Held = record { rules = c.args.rules; overrides = 0; oppositions = 0 } in
    omega (arith, (front-literals _ _ _ _ _ (c.in_ok-defeasible.was ∙ ap Ok c.in-Literals.is) (c.read_front.ensures some refl)).whole)

pub returns-in_err-read_body-in-Literals : goal.returns-in_err-read_body-in-Literals
returns-in_err-read_body-in-Literals c h e =
    let p = err_from_is_err_and c.from_residual-in_err-read_body-in-Literals.result c.from_residual-in_err-read_body-in-Literals.ensures.1 in
    let left = front-literals _ _ _ _ _ (c.in_ok-defeasible.was ∙ ap Ok c.in-Literals.is) (c.read_front.ensures h e) in
    run-refuses _ _ _ _ _ (p.1 ∙ ap Err p.2) (literals-refused _ _ _ _ left _ c.read_body.ensures _ c.in_err-read_body-in-Literals.was)

pub returns-in_ok-read_body-in-Literals : goal.returns-in_ok-read_body-in-Literals
returns-in_ok-read_body-in-Literals c h e =
    let left = front-literals _ _ _ _ _ (c.in_ok-defeasible.was ∙ ap Ok c.in-Literals.is) (c.read_front.ensures h e) in
    literals-rule _ _ _ _ left _ c.read_body.ensures _ c.in_ok-read_body-in-Literals.was

pub returns-in-End : goal.returns-in-End
returns-in-End c h e = front-end _ _ _ _ (c.in_ok-defeasible.was ∙ ap Ok c.in-End.is) (c.read_front.ensures h e)

pub returns-in-Other : goal.returns-in-Other
returns-in-Other c h e = front-other _ _ _ _ (c.in_ok-defeasible.was ∙ ap Ok c.in-Other.is) (c.read_front.ensures h e)
