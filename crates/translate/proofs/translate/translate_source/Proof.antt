-- `translate::translate_source` meets its contract: sources are of a form that can be translated.
-- Assumes nothing.
use mathlib.Core.Path.{sym, subst}
use borrow.Author.Rules.{rules}
use Rattle.literal.specs.Limits.{source}
use Rattle.expand.specs.Code.{Normalizable}
use Rattle.expand.proofs.Laws.File.{normalizable-source}
use Rattle.translate.specs.Code.{Writable}
use Rattle.translate.proofs.Laws.Translate.{meets-same, writable-source}
use Rattle.translate.proofs.translate.translate_source.Statement.{statement}
use Rattle.translate.proofs.translate.translate_source.Tie as tie

translate-requires : tie.Need-translate-requires
translate-requires c κs =
    let same = sym c.limits.ensures in
    (subst Writable same writable-source, subst Normalizable same normalizable-source)

returns : tie.Need-returns
returns c =
    meets-same c.limits.result source c.args.s.now c.args.out.now c.limits.ensures c.translate.ensures

pub translate_source_spec : {M : Type 1} → statement M
translate_source_spec = tie.close (tie.spec (λ c κs. search rules) translate-requires (λ c. search rules) returns)
