-- `exports::aspda_add` meets its contract: add's answer has room in its word, and state and buffer are add's.
-- Assumes nothing.
use mathlib.Core.Path.{◌∙◌, ap}
use borrow.Author.Rules.{rules}
use Rattle.assembly.specs.Calls.{add}
use Rattle.aspda_word.specs.Words.{count_word}
use Rattle.aspda.proofs.Laws.Words.{called-short}
use Rattle.aspda.proofs.exports.aspda_add.Statement.{statement}
use Rattle.aspda.proofs.exports.aspda_add.Tie as tie

reading-word-requires : tie.Need-count_word-requires
reading-word-requires c κs =
    let a = c.args in
    called-short (add a.rule.now) a.state.now a.out.now _ c.add_record.ensures.answer

returns : tie.Need-returns
returns c =
    let met = c.add_record.ensures in
    record { answer = c.count_word.ensures ∙ ap count_word met.answer; state = met.state; buffer = met.buffer }

pub aspda_add_spec : {M : Type 1} → statement M
aspda_add_spec = tie.close (tie.spec (λ c κs. search rules) reading-word-requires (λ c. search rules) (λ c. search rules) returns)
