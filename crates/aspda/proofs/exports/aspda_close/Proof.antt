-- `exports::aspda_close` meets its contract: close's answer has room in its word, and state and buffer are close's.
-- Assumes nothing.
use mathlib.Core.Path.{◌∙◌, ap}
use borrow.Author.Rules.{rules}
use Rattle.assembly.specs.Calls.{close}
use Rattle.aspda_word.specs.Words.{count_word}
use Rattle.aspda.proofs.Laws.Words.{called-short}
use Rattle.aspda.proofs.exports.aspda_close.Statement.{statement}
use Rattle.aspda.proofs.exports.aspda_close.Tie as tie

reading-word-requires : tie.Need-count_word-requires
reading-word-requires c κs =
    let a = c.args in
    called-short close a.state.now a.out.now _ c.close_state.ensures.answer

returns : tie.Need-returns
returns c =
    let met = c.close_state.ensures in
    record { answer = c.count_word.ensures ∙ ap count_word met.answer; state = met.state; buffer = met.buffer }

pub aspda_close_spec : {M : Type 1} → statement M
aspda_close_spec = tie.close (tie.spec (λ c κs. search rules) reading-word-requires (λ c. search rules) (λ c. search rules) returns)
