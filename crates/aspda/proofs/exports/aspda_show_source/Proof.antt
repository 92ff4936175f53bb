-- `exports::aspda_show_source` meets its contract: show's answer has room in its word.
-- Assumes nothing.
use native.Mathlib.Omega.{arith}
use mathlib.Core.Path.{◌∙◌, ap}
use borrow.Author.Rules.{rules}
use Rattle.literal.specs.Limits.{source}
use Rattle.aspda_word.specs.Words.{shown_word}
use Rattle.aspda.proofs.Laws.Words.{shown-short}
use Rattle.aspda.proofs.exports.aspda_show_source.Statement.{statement}
use Rattle.aspda.proofs.exports.aspda_show_source.Tie as tie

shown-word-requires : tie.Need-shown_word-requires
unfolding source
shown-word-requires c κs =
    shown-short source (omega arith) c.args.s.now c.args.number _
    (λ i. (c.shared_slice_known-1.given i).fits) c.find_source.ensures

returns : tie.Need-returns
returns c = c.shown_word.ensures ∙ ap shown_word c.find_source.ensures

pub aspda_show_source_spec : {M : Type 1} → statement M
aspda_show_source_spec = tie.close (tie.spec (λ c κs. search rules) shown-word-requires returns)
