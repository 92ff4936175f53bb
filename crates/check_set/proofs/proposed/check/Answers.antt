-- `proposed::check` meets its contract: a refusal of the program or the set, or the check of what both hold.
-- Assumes nothing.
use Rattle.std.proofs.Common.{sym, ◌∙◌}
use Rattle.std.proofs.lemmas.Result.{err_from_is_err_and}
use Rattle.semantics.specs.Item.{expanded}
use Rattle.record.proofs.Laws.Meant.{items-expanded, form-unsheeted}
use Rattle.inputs.proofs.Laws.Inputs.{inputs_read}
use Rattle.check_set.proofs.Laws.Check.{clausable, checked_refused, read-checking, read-met}
use Rattle.check_set.proofs.proposed.check.Goals as goal

pub returns-in_err-n : goal.returns-in_err-n
returns-in_err-n c =
    let a = c.args in
    let p = err_from_is_err_and c.from_residual.result c.from_residual.ensures.1 in
    rw (p.1, p.2) (checked_refused a.lim a.s.now a.k.now a.out.now (sym c.read_inputs.ensures ∙ c.in_err-n.was))

-- both were read, the slice has the program's records, and there is room for their clauses
pub check_program-requires : goal.check_program-requires
check_program-requires c =
    let a = c.args in
    let w = inputs_read a.lim a.lim.checked a.s.now a.k.now _ _ (sym c.read_inputs.ensures ∙ c.in_ok-n.was) in
    read-checking a.lim a.s.now a.k.now a.out.now c.requires.checkable.checked w (λ i. (c.type_inv.k i).fits) a.s.now
    (form-unsheeted a.lim a.s.now w.file (λ i. (c.type_inv.s i).fits) w.holds _ w.held c.requires.sheets_value)
    (clausable a.lim c.requires.checkable (expanded w.file) (items-expanded a.lim a.s.now w.file (λ i. (c.type_inv.s i).fits) w.holds))

pub returns : goal.returns
returns c =
    let a = c.args in
    let w = inputs_read a.lim a.lim.checked a.s.now a.k.now _ _ (sym c.read_inputs.ensures ∙ c.in_ok-n.was) in
    read-met a.lim a.s.now a.k.now a.out.now c.requires.checkable.checked w (λ i. (c.type_inv.k i).fits) a.s.now
    (form-unsheeted a.lim a.s.now w.file (λ i. (c.type_inv.s i).fits) w.holds _ w.held c.requires.sheets_value)
    (clausable a.lim c.requires.checkable (expanded w.file) (items-expanded a.lim a.s.now w.file (λ i. (c.type_inv.s i).fits) w.holds))
    c.check_program.ensures
