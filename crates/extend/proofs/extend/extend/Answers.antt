-- `extend::extend` meets its contract: a refusal of the program or the set, or the extension for the program that is meant.
-- Assumes nothing.
use Rattle.std.proofs.Common.{sym, ◌∙◌}
use Rattle.std.proofs.lemmas.Result.{err_from_is_err_and}
use Rattle.inputs.proofs.Laws.Inputs.{inputs_read}
use Rattle.extend.proofs.Laws.Outcome.{extended-refused, read-extending, read-met}
use Rattle.extend.proofs.extend.extend.Goals as goal

pub returns-in_err-count : goal.returns-in_err-count
returns-in_err-count c =
    let a = c.args in
    let p = err_from_is_err_and c.from_residual.result c.from_residual.ensures.1 in
    rw (p.1, p.2) (extended-refused a.lim a.s.now a.k.now a.out.now _ (sym c.read_inputs.ensures ∙ c.in_err-count.was))

pub write_extension-requires : goal.write_extension-requires
write_extension-requires c =
    let a = c.args in
    let w = inputs_read a.lim a.lim.literals a.s.now a.k.now _ _ (sym c.read_inputs.ensures ∙ c.in_ok-count.was) in
    read-extending a.lim a.s.now a.k.now c.requires w (λ i. (c.type_inv.s i).fits) (λ i. (c.type_inv.k i).fits)

pub returns : goal.returns
returns c =
    let a = c.args in
    let w = inputs_read a.lim a.lim.literals a.s.now a.k.now _ _ (sym c.read_inputs.ensures ∙ c.in_ok-count.was) in
    read-met a.lim a.s.now a.k.now c.requires w (λ i. (c.type_inv.s i).fits) (λ i. (c.type_inv.k i).fits) a.out.now c.write_extension.ensures
