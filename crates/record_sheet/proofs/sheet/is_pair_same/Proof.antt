-- `sheet::is_pair_same` meets its contract: the kinds are compared, then the atoms.
-- Assumes nothing.
use mathlib.Core.Path.{sym, ◌∙◌, ap₂}
use lib.Dec.{eqb}
use borrow.Author.Rules.{rules}
use borrow.Author.Tests.{eq-eqb, ne_eqb}
use Rattle.record_sheet.proofs.Laws.Sheet.{pair-differs, pair-atoms}
use Rattle.record_sheet.proofs.sheet.is_pair_same.Statement.{statement}
use Rattle.record_sheet.proofs.sheet.is_pair_same.Tie as tie

returns : tie.Need-returns-then-t
returns c =
    sym (pair-differs c.args.t.now (ne_eqb _ _ c.if-t.true))

returns-2 : tie.Need-returns
returns-2 c =
    ap₂ eqb c.get_number.ensures c.get_number-2.ensures ∙ sym (pair-atoms c.args.t.now (eq-eqb _ _ c.if-t.false))

pub is_pair_same_spec : {M : Type 1} → statement M
is_pair_same_spec =
    tie.close (tie.spec (λ c. search rules) (λ c. search rules) returns (λ c κs. search rules) (λ c κs. search rules) returns-2)
