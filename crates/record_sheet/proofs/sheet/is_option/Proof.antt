-- `sheet::is_option` meets its contract: a literal of the form is an option by its kind.
-- Assumes nothing.
use mathlib.Core.Path.{sym, ◌∙◌}
use borrow.Author.Rules.{rules}
use Rattle.record_sheet.proofs.Laws.Sheet.{signed-invalid, signed-kind}
use Rattle.record_sheet.proofs.sheet.is_option.Statement.{statement}
use Rattle.record_sheet.proofs.sheet.is_option.Tie as tie

returns : tie.Need-returns-then-not-is_literal
returns c = sym (signed-invalid _ (sym c.is_literal.ensures ∙ c.if-not-is_literal.true))

returns-2 : tie.Need-returns
returns-2 c =
    let a = c.args in
    sym (signed-kind a.lim a.t.now (sym c.is_literal.ensures ∙ c.if-not-is_literal.false))

pub is_option_spec : {M : Type 1} → statement M
is_option_spec = tie.close (tie.spec (λ c κs. search rules) returns (λ c. search rules) returns-2)
