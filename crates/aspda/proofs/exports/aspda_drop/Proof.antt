-- `exports::aspda_drop` meets its contract: drop's answer has room in its word, and the state is drop's.
-- Assumes nothing.
use mathlib.Core.Path.{◌∙◌, ap}
use mathlib.Core.List.{[]}
use borrow.Author.Rules.{rules}
use Rattle.assembly.specs.Calls.{drop_last}
use Rattle.aspda_word.specs.Words.{count_word}
use Rattle.aspda.proofs.Laws.Words.{called-short}
use Rattle.aspda.proofs.exports.aspda_drop.Statement.{statement}
use Rattle.aspda.proofs.exports.aspda_drop.Tie as tie

reading-word-requires : tie.Need-count_word-requires
reading-word-requires c κs =
    let a = c.args in
    called-short drop_last a.state.now [] _ c.drop_last.ensures.answer

returns : tie.Need-returns
returns c =
    let kept = c.drop_last.ensures in
    record { answer = c.count_word.ensures ∙ ap count_word kept.answer; state = kept.state }

pub aspda_drop_spec : {M : Type 1} → statement M
aspda_drop_spec = tie.close (tie.spec (λ c κs. search rules) reading-word-requires (λ c. search rules) returns)
