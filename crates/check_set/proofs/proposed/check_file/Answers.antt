-- `proposed::check_file` meets its contract: a refusal of the program or the set, or the check of the program that is meant.
-- Assumes nothing.
use Rattle.std.proofs.Common.{sym, subst, ◌∙◌}
use Rattle.std.proofs.lemmas.Result.{err_from_is_err_and}
use Rattle.record.proofs.Laws.Meant.{held-unsheeted}
use Rattle.semantics.specs.Item.{expanded}
use Rattle.expand.proofs.Laws.File.{means-expandable, normal-of}
use Rattle.check_set.specs.Meets.{MeetsCheck}
use Rattle.check_set.specs.Code.{check_of}
use Rattle.inputs.proofs.Laws.Inputs.{inputs_read}
use Rattle.check_set.proofs.Laws.Check.{checked_refused, read-checking, read-met, file-checking, file-met, normal-checking, clausable-unsheeted, clausable-file}
use Rattle.check_set.proofs.proposed.check_file.Goals as goal

pub returns-in_err-held : goal.returns-in_err-held
returns-in_err-held c =
    let a = c.args in
    let p = err_from_is_err_and c.from_residual.result c.from_residual.ensures.1 in
    rw (p.1, p.2) (checked_refused a.lim a.s.now a.k.now a.out.now (sym c.read_inputs.ensures ∙ c.in_err-held.was))

pub with_normal-requires-clause-file : goal.with_normal-requires-clause-file
with_normal-requires-clause-file c =
    let a = c.args in
    let w = inputs_read a.lim a.lim.checked a.s.now a.k.now _ _ (sym c.read_inputs.ensures ∙ c.in_ok-held.was) in
    means-expandable (file-checking a.lim a.s.now a.k.now a.out.now c.requires.checkable_file.checked w (λ i. (c.type_inv.k i).fits)
    c.requires.normalizable (λ i. (c.type_inv.s i).fits)
    (clausable-file a.lim c.requires.checkable_file a.s.now w.file (λ i. (c.type_inv.s i).fits) w.holds)).file

pub with_normal-requires-clause-callable : goal.with_normal-requires-clause-callable
with_normal-requires-clause-callable c t o is same =
    let a = c.args in
    let w = inputs_read a.lim a.lim.checked a.s.now a.k.now _ _ (sym c.read_inputs.ensures ∙ c.in_ok-held.was) in
    normal-checking (file-checking a.lim a.s.now a.k.now a.out.now c.requires.checkable_file.checked w (λ i. (c.type_inv.k i).fits)
    c.requires.normalizable (λ i. (c.type_inv.s i).fits)
    (clausable-file a.lim c.requires.checkable_file a.s.now w.file (λ i. (c.type_inv.s i).fits) w.holds)) is

pub returns-then-has_sheets : goal.returns-then-has_sheets
unfolding normal-of normal-checking
returns-then-has_sheets c =
    let a = c.args in
    let w = inputs_read a.lim a.lim.checked a.s.now a.k.now _ _ (sym c.read_inputs.ensures ∙ c.in_ok-held.was) in
    let e = c.with_normal.ensures in
    file-met a.lim a.s.now a.k.now a.out.now c.requires.checkable_file.checked w (λ i. (c.type_inv.k i).fits) c.requires.normalizable
    (λ i. (c.type_inv.s i).fits) (clausable-file a.lim c.requires.checkable_file a.s.now w.file (λ i. (c.type_inv.s i).fits) w.holds) (λ v.
    subst (λ o. MeetsCheck (check_of (expanded v.file.items) v.literals a.k.now o) c.with_normal.result c.with_normal.new.out) e.came
    (subst (λ x. MeetsCheck (check_of (expanded v.file.items) v.literals a.k.now e.lent.now) c.with_normal.result x) e.gone
    (e.called (normal-checking v e.means))))

-- a file without sheets has the program's records, and there is room for their clauses
pub check_program-requires : goal.check_program-requires
check_program-requires c =
    let a = c.args in
    let w = inputs_read a.lim a.lim.checked a.s.now a.k.now _ _ (sym c.read_inputs.ensures ∙ c.in_ok-held.was) in
    let none = sym c.has_sheets.ensures ∙ c.if-has_sheets.false in
    read-checking a.lim a.s.now a.k.now a.out.now c.requires.checkable_file.checked w (λ i. (c.type_inv.k i).fits) a.s.now
    (held-unsheeted a.lim a.s.now w.file (λ i. (c.type_inv.s i).fits) w.holds _ w.held none)
    (clausable-unsheeted a.lim c.requires.checkable_file a.s.now w.file (λ i. (c.type_inv.s i).fits) w.holds _ w.held none)

pub returns : goal.returns
returns c =
    let a = c.args in
    let w = inputs_read a.lim a.lim.checked a.s.now a.k.now _ _ (sym c.read_inputs.ensures ∙ c.in_ok-held.was) in
    let none = sym c.has_sheets.ensures ∙ c.if-has_sheets.false in
    read-met a.lim a.s.now a.k.now a.out.now c.requires.checkable_file.checked w (λ i. (c.type_inv.k i).fits) a.s.now
    (held-unsheeted a.lim a.s.now w.file (λ i. (c.type_inv.s i).fits) w.holds _ w.held none)
    (clausable-unsheeted a.lim c.requires.checkable_file a.s.now w.file (λ i. (c.type_inv.s i).fits) w.holds _ w.held none)
    c.check_program.ensures
