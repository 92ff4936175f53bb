-- `quotient::divide_file` meets its contract: a refusal of the program or the set, or the quotient of the program that is meant.
-- Assumes nothing.
use Rattle.std.proofs.Common.{sym, subst, ◌∙◌}
use Rattle.std.proofs.lemmas.Result.{err_from_is_err_and}
use Rattle.record.proofs.Laws.Meant.{held-unsheeted}
use Rattle.semantics.specs.Item.{expanded}
use Rattle.record.specs.Meets.{Meets}
use Rattle.expand.proofs.Laws.File.{means-expandable, normal-of}
use Rattle.quotient.specs.Code.{delivered_quotient}
use Rattle.inputs.proofs.Laws.Inputs.{inputs_read}
use Rattle.quotient.proofs.Laws.Quotient.{refused-met, read-dividing, read-met, file-dividing, file-met, normal-dividing}
use Rattle.quotient.proofs.quotient.divide_file.Goals as goal

pub returns-in_err-held : goal.returns-in_err-held
returns-in_err-held c =
    let a = c.args in
    let p = err_from_is_err_and c.from_residual.result c.from_residual.ensures.1 in
    rw (p.1, p.2) (refused-met a.lim a.s.now a.k.now a.out.now _ (sym c.read_inputs.ensures ∙ c.in_err-held.was))

pub with_normal-requires-clause-file : goal.with_normal-requires-clause-file
with_normal-requires-clause-file c =
    let a = c.args in
    let w = inputs_read a.lim a.lim.literals a.s.now a.k.now _ _ (sym c.read_inputs.ensures ∙ c.in_ok-held.was) in
    means-expandable (file-dividing a.lim a.s.now a.k.now a.out.now c.requires.sized w (λ i. (c.type_inv.s i).fits) c.requires.normalizable).file

pub with_normal-requires-clause-callable : goal.with_normal-requires-clause-callable
with_normal-requires-clause-callable c t o is same =
    let a = c.args in
    let w = inputs_read a.lim a.lim.literals a.s.now a.k.now _ _ (sym c.read_inputs.ensures ∙ c.in_ok-held.was) in
    normal-dividing (file-dividing a.lim a.s.now a.k.now a.out.now c.requires.sized w (λ i. (c.type_inv.s i).fits) c.requires.normalizable) is

pub returns-then-has_sheets : goal.returns-then-has_sheets
unfolding normal-of normal-dividing
returns-then-has_sheets c =
    let a = c.args in
    let w = inputs_read a.lim a.lim.literals a.s.now a.k.now _ _ (sym c.read_inputs.ensures ∙ c.in_ok-held.was) in
    let e = c.with_normal.ensures in
    file-met a.lim a.s.now a.k.now a.out.now c.requires.sized w (λ i. (c.type_inv.s i).fits) c.requires.normalizable (λ v.
    subst (λ o. Meets (delivered_quotient (expanded v.file.items) v.literals o) c.with_normal.result c.with_normal.new.out) e.came
    (subst (λ x. Meets (delivered_quotient (expanded v.file.items) v.literals e.lent.now) c.with_normal.result x) e.gone
    (e.called (normal-dividing v e.means))))

pub divide_program-requires : goal.divide_program-requires
divide_program-requires c =
    let a = c.args in
    let w = inputs_read a.lim a.lim.literals a.s.now a.k.now _ _ (sym c.read_inputs.ensures ∙ c.in_ok-held.was) in
    read-dividing a.lim a.s.now a.k.now a.out.now c.requires.sized w (λ i. (c.type_inv.s i).fits) a.s.now
    (held-unsheeted a.lim a.s.now w.file (λ i. (c.type_inv.s i).fits) w.holds _ w.held (sym c.has_sheets.ensures ∙ c.if-has_sheets.false))

pub returns : goal.returns
returns c =
    let a = c.args in
    let w = inputs_read a.lim a.lim.literals a.s.now a.k.now _ _ (sym c.read_inputs.ensures ∙ c.in_ok-held.was) in
    read-met a.lim a.s.now a.k.now a.out.now c.requires.sized w (λ i. (c.type_inv.s i).fits) a.s.now
    (held-unsheeted a.lim a.s.now w.file (λ i. (c.type_inv.s i).fits) w.holds _ w.held (sym c.has_sheets.ensures ∙ c.if-has_sheets.false))
    c.divide_program.ensures
