-- `quotient::divide` meets its contract: a refusal of the program or the set, or the quotient of what both hold.
-- Assumes nothing.
use Rattle.std.proofs.Common.{sym, ◌∙◌}
use Rattle.std.proofs.lemmas.Result.{err_from_is_err_and}
use Rattle.record.proofs.Laws.Meant.{form-unsheeted}
use Rattle.inputs.proofs.Laws.Inputs.{inputs_read}
use Rattle.quotient.proofs.Laws.Quotient.{refused-met, read-dividing, read-met}
use Rattle.quotient.proofs.quotient.divide.Goals as goal

pub returns-in_err-count : goal.returns-in_err-count
returns-in_err-count c =
    let a = c.args in
    let p = err_from_is_err_and c.from_residual.result c.from_residual.ensures.1 in
    rw (p.1, p.2) (refused-met a.lim a.s.now a.k.now a.out.now _ (sym c.read_inputs.ensures ∙ c.in_err-count.was))

pub divide_program-requires : goal.divide_program-requires
divide_program-requires c =
    let a = c.args in
    let w = inputs_read a.lim a.lim.literals a.s.now a.k.now _ _ (sym c.read_inputs.ensures ∙ c.in_ok-count.was) in
    read-dividing a.lim a.s.now a.k.now a.out.now c.requires.sized w (λ i. (c.type_inv.s i).fits) a.s.now
    (form-unsheeted a.lim a.s.now w.file (λ i. (c.type_inv.s i).fits) w.holds _ w.held c.requires.sheets_value)

pub returns : goal.returns
returns c =
    let a = c.args in
    let w = inputs_read a.lim a.lim.literals a.s.now a.k.now _ _ (sym c.read_inputs.ensures ∙ c.in_ok-count.was) in
    read-met a.lim a.s.now a.k.now a.out.now c.requires.sized w (λ i. (c.type_inv.s i).fits) a.s.now
    (form-unsheeted a.lim a.s.now w.file (λ i. (c.type_inv.s i).fits) w.holds _ w.held c.requires.sheets_value) c.divide_program.ensures
