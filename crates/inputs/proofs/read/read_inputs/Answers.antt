-- `read::read_inputs` meets its contract: the file's refusal, the set's, or what both hold.
-- Assumes nothing.
use Rattle.std.proofs.Common.{rules, sym, ap, ◌∙◌, Err}
use Rattle.std.proofs.lemmas.Result.{err_from_is_err_and, MatchResult-at_err}
use Rattle.inputs.proofs.Laws.Inputs.{both-file, both-set, both_read_lem}
use Rattle.inputs.proofs.read.read_inputs.Goals as goal

pub returns-in_default : goal.returns-in_default
returns-in_default c =
    let a = c.args in
    let told = sym (both-file a.lim a.most a.s.now a.k.now _ (sym c.read_items-file.ensures ∙ c.in_default.is)) in
    MatchResult-at_err _ _ _ c.in_default.is c.map.ensures.cases ∙ told

pub returns-in_err-count : goal.returns-in_err-count
returns-in_err-count c =
    let a = c.args in
    let p = err_from_is_err_and c.from_residual.result c.from_residual.ensures.1 in
    p.1 ∙ ap Err p.2
    ∙ sym (both-set a.lim a.most a.s.now a.k.now _ (sym c.read_items-file.ensures ∙ c.in-Ok.is) _ (sym c.read_set.ensures ∙ c.in_err-count.was))

pub returns : goal.returns
returns c =
    let a = c.args in
    sym (both_read_lem a.lim a.most a.s.now a.k.now _ (sym c.read_items-file.ensures ∙ c.in-Ok.is) _ (sym c.read_set.ensures ∙ c.in_ok-count.was))
