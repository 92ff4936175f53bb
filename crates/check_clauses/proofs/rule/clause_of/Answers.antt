-- `rule::clause_of` meets its contract, by the naf literals and the positive ones.
use Rattle.std.proofs.Common.{sym, ◌∙◌}
use Rattle.check_clauses.proofs.Laws.Rule.{clause-removed, clause-missing, clause-whole}
use Rattle.check_clauses.proofs.rule.clause_of.Goals as goal

pub returns-then-is_removed : goal.returns-then-is_removed
returns-then-is_removed c =
    let s = c.args.set.set in
    sym (clause-removed c.args.t.now s.bytes.now s.count (sym c.is_removed.ensures ∙ c.if-is_removed.true))

pub returns-in_err-body : goal.returns-in_err-body
returns-in_err-body c =
    let s = c.args.set.set in
    c.from_residual.ensures
    ∙ sym (clause-missing c.args.t.now s.bytes.now s.count (sym c.is_removed.ensures ∙ c.if-is_removed.false) c.in_err-body.ensures)

pub returns : goal.returns
returns c =
    let s = c.args.set.set in
    c.clause_with.ensures
    ∙ sym (clause-whole c.args.t.now s.bytes.now s.count (sym c.is_removed.ensures ∙ c.if-is_removed.false) _ c.in_ok-body.ensures)
