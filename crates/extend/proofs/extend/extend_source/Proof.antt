-- `extend::extend_source` meets its contract: an extension is made in the form of sources.
-- Assumes nothing.
use mathlib.Core.Path.{sym, subst}
use borrow.Author.Rules.{rules}
use Rattle.literal.specs.Limits.{source}
use Rattle.extend.specs.Code.{Extendable}
use Rattle.extend.proofs.Laws.Outcome.{meets-same, extendable-source}
use Rattle.extend.proofs.extend.extend_source.Statement.{statement}
use Rattle.extend.proofs.extend.extend_source.Tie as tie

extend-requires : tie.Need-extend-requires
extend-requires c κs = subst Extendable (sym c.limits.ensures) extendable-source

returns : tie.Need-returns
returns c =
    let a = c.args in
    meets-same c.limits.result source a.s.now a.k.now a.out.now c.limits.ensures c.extend.ensures

pub extend_source_spec : {M : Type 1} → statement M
extend_source_spec = tie.close (tie.spec (λ c κs. search rules) extend-requires (λ c. search rules) returns)
