-- `rule::clause_with` meets its contract, by the letter and whether an option is left.
use Rattle.std.proofs.Common.{ℕ, sym, ◌∙◌, ap, Option, Some}
use Rattle.check_force.specs.declared.Clause.{Clause}
use Rattle.check_clauses.proofs.Laws.Rule.{with-strict, with_none, with-left}
use Rattle.check_clauses.proofs.rule.clause_with.Goals as goal

pub returns-then-t-ne68 : goal.returns-then-t-ne68
returns-then-t-ne68 c =
    let s = c.args.set.set in
    let with-head : ℕ → Option Clause = λ k. Some (record { body = c.args.body; head = k }) in
    ap with-head c.mask_heads-head.ensures
    ∙ sym (with-strict c.args.t.now c.args.body s.bytes.now s.count c.if-t-ne68.true)

pub returns-in_err-left : goal.returns-in_err-left
returns-in_err-left c =
    let s = c.args.set.set in
    c.from_residual.ensures ∙ sym (with_none c.args.t.now c.args.body s.bytes.now s.count c.if-t-ne68.false c.in_err-left.ensures)

pub returns : goal.returns
returns c =
    let s = c.args.set.set in
    sym (with-left c.args.t.now c.args.body s.bytes.now s.count c.if-t-ne68.false _ c.in_ok-left.ensures)
