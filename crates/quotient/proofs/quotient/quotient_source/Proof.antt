-- `quotient::quotient_source` meets its contract: the form's figures fit two bytes each.
-- Assumes nothing.
use mathlib.Core.Path.{sym, subst}
use borrow.Author.Rules.{rules}
use Rattle.literal.specs.Limits.{source}
use Rattle.expand.specs.Code.{Normalizable}
use Rattle.expand.proofs.Laws.File.{normalizable-source}
use Rattle.quotient.specs.Code.{Sized}
use Rattle.quotient.proofs.Laws.Quotient.{met-same, sized-source}
use Rattle.quotient.proofs.quotient.quotient_source.Statement.{statement}
use Rattle.quotient.proofs.quotient.quotient_source.Tie as tie

divide-file-requires : tie.Need-divide_file-requires
divide-file-requires c κs =
    let same = sym c.limits.ensures in
    (subst Sized same sized-source, subst Normalizable same normalizable-source)

returns : tie.Need-returns
returns c =
    let a = c.args in
    met-same c.limits.result source a.s.now a.k.now a.out.now c.limits.ensures c.divide_file.ensures

pub quotient_source_spec : {M : Type 1} → statement M
quotient_source_spec = tie.close (tie.spec (λ c κs. search rules) divide-file-requires (λ c. search rules) returns)
