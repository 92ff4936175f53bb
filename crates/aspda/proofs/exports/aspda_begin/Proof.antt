-- `exports::aspda_begin` meets its contract: begin's answer has room in its word, and the state is begin's.
-- Assumes nothing.
use mathlib.Core.Path.{◌∙◌, ap}
use borrow.Author.Rules.{rules}
use Rattle.assembly.specs.Calls.{begin}
use Rattle.aspda_word.specs.Words.{count_word}
use Rattle.aspda.proofs.Laws.Words.{called-short}
use Rattle.aspda.proofs.exports.aspda_begin.Statement.{statement}
use Rattle.aspda.proofs.exports.aspda_begin.Tie as tie

reading-word-requires : tie.Need-count_word-requires
reading-word-requires c κs =
    let a = c.args in
    called-short begin a.state.now a.out.now _ c.begin_state.ensures.answer

returns : tie.Need-returns
returns c =
    let kept = c.begin_state.ensures in
    record { answer = c.count_word.ensures ∙ ap count_word kept.answer; state = kept.state }

pub aspda_begin_spec : {M : Type 1} → statement M
aspda_begin_spec = tie.close (tie.spec (λ c κs. search rules) reading-word-requires (λ c. search rules) returns)
