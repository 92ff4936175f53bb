-- `read::read` meets its contract: reading counts the rules that are held.
-- Assumes nothing.
use Rattle.std.proofs.Common.{sym, ap, ◌∙◌, Err}
use Rattle.std.proofs.lemmas.Result.{err_from_is_err_and}
use Rattle.record.specs.Code.{rule_count}
use Rattle.record.proofs.Laws.Program.{rules-counted}
use Rattle.record_read.proofs.read.read.Goals as goal

pub returns-in_err-held : goal.returns-in_err-held
unfolding rule_count
returns-in_err-held c =
    let p = err_from_is_err_and c.from_residual.result c.from_residual.ensures.1 in
    p.1 ∙ ap Err p.2 ∙ sym (rules-counted c.args.lim c.args.s.now ∙ ap rule_count (sym c.read_items.ensures ∙ c.in_err-held.was))

pub returns : goal.returns
unfolding rule_count
returns c = sym (rules-counted c.args.lim c.args.s.now ∙ ap rule_count (sym c.read_items.ensures ∙ c.in_ok-held.was))
