-- `exports::aspda_show_plain` meets its contract: show's answer has room in its word.
-- Assumes nothing.
use native.Mathlib.Omega.{arith}
use mathlib.Core.Path.{◌∙◌, ap}
use borrow.Author.Rules.{rules}
use Rattle.literal.specs.Limits.{plain}
use Rattle.aspda_word.specs.Words.{shown_word}
use Rattle.aspda.proofs.Laws.Words.{shown-short}
use Rattle.aspda.proofs.exports.aspda_show_plain.Statement.{statement}
use Rattle.aspda.proofs.exports.aspda_show_plain.Tie as tie

shown-word-requires : tie.Need-shown_word-requires
unfolding plain
shown-word-requires c κs =
    shown-short plain (omega arith) c.args.s.now c.args.number _
    (λ i. (c.shared_slice_known-1.given i).fits) c.find_plain.ensures

returns : tie.Need-returns
returns c = c.shown_word.ensures ∙ ap shown_word c.find_plain.ensures

pub aspda_show_plain_spec : {M : Type 1} → statement M
aspda_show_plain_spec = tie.close (tie.spec (λ c κs. search rules) shown-word-requires returns)
