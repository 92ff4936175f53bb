-- `exports::aspda_translate` meets its contract: translate's answer has room in its word, and the buffer is translate's.
-- Assumes nothing.
use native.Mathlib.Omega.{arith}
use mathlib.Core.Path.{◌∙◌, ap}
use borrow.Author.Rules.{rules}
use Rattle.literal.specs.Limits.{source}
use Rattle.aspda_word.specs.Words.{count_word}
use Rattle.aspda.proofs.Laws.Words.{translated-short}
use Rattle.aspda.proofs.exports.aspda_translate.Statement.{statement}
use Rattle.aspda.proofs.exports.aspda_translate.Tie as tie

written-word-requires : tie.Need-count_word-requires
unfolding source
written-word-requires c κs =
    let a = c.args in
    translated-short source (omega arith) a.s.now a.out.now _ c.translate_source.ensures.answer

returns : tie.Need-returns
returns c =
    let met = c.translate_source.ensures in
    record { answer = c.count_word.ensures ∙ ap count_word met.answer; buffer = met.buffer }

pub aspda_translate_spec : {M : Type 1} → statement M
aspda_translate_spec = tie.close (tie.spec (λ c κs. search rules) written-word-requires (λ c. search rules) returns)
