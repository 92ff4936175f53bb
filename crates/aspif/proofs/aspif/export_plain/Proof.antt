-- `aspif::export_plain` meets its contract: plain programs are of a form that can be exported.
-- Assumes nothing.
use mathlib.Core.Path.{sym, subst}
use borrow.Author.Rules.{rules}
use Rattle.literal.specs.Limits.{plain}
use Rattle.aspif.specs.Code.{Exportable}
use Rattle.aspif.proofs.Laws.Outcome.{meets-same, exportable-plain}
use Rattle.aspif.proofs.aspif.export_plain.Statement.{statement}
use Rattle.aspif.proofs.aspif.export_plain.Tie as tie

export-requires : tie.Need-export-requires
export-requires c κs = subst Exportable (sym c.limits.ensures) exportable-plain

returns : tie.Need-returns
returns c =
    meets-same c.limits.result plain c.args.s.now c.args.out.now c.limits.ensures c.export.ensures

pub export_plain_spec : {M : Type 1} → statement M
export_plain_spec = tie.close (tie.spec (λ c κs. search rules) export-requires (λ c. search rules) returns)
