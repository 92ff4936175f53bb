-- `exports::aspda_quotient_source` meets its contract: the operation's answer has room in its word, and the buffer is the operation's.
-- Assumes nothing.
use native.Mathlib.Omega.{arith}
use mathlib.Core.Path.{◌∙◌, ap}
use borrow.Author.Rules.{rules}
use Rattle.literal.specs.Limits.{source}
use Rattle.aspda_word.specs.Words.{count_word}
use Rattle.aspda.proofs.Laws.Words.{quotiented-short}
use Rattle.aspda.proofs.exports.aspda_quotient_source.Statement.{statement}
use Rattle.aspda.proofs.exports.aspda_quotient_source.Tie as tie

written-word-requires : tie.Need-count_word-requires
unfolding source
written-word-requires c κs =
    let a = c.args in
    quotiented-short source (omega arith) a.s.now (omega arith) a.k.now a.out.now _ c.quotient_source.ensures.answer

returns : tie.Need-returns
returns c =
    let met = c.quotient_source.ensures in
    record { answer = c.count_word.ensures ∙ ap count_word met.answer; buffer = met.buffer }

pub aspda_quotient_source_spec : {M : Type 1} → statement M
aspda_quotient_source_spec = tie.close (tie.spec (λ c κs. search rules) written-word-requires (λ c. search rules) returns)
