-- `exports::aspda_restrict` meets its contract: the operation's answer has room in its word, and the buffer is the operation's.
-- Assumes nothing.
use native.Mathlib.Omega.{arith}
use mathlib.Core.Path.{◌∙◌, ap}
use borrow.Author.Rules.{rules}
use Rattle.literal.specs.Limits.{plain}
use Rattle.aspda_word.specs.Words.{count_word}
use Rattle.aspda.proofs.Laws.Words.{restricted-short}
use Rattle.aspda.proofs.exports.aspda_restrict.Statement.{statement}
use Rattle.aspda.proofs.exports.aspda_restrict.Tie as tie

written-word-requires : tie.Need-count_word-requires
unfolding plain
written-word-requires c κs =
    let a = c.args in
    restricted-short plain (omega arith) a.k.now (omega arith) a.out.now _ c.restrict_plain.ensures.answer

returns : tie.Need-returns
returns c =
    let met = c.restrict_plain.ensures in
    record { answer = c.count_word.ensures ∙ ap count_word met.answer; buffer = met.buffer }

pub aspda_restrict_spec : {M : Type 1} → statement M
aspda_restrict_spec = tie.close (tie.spec (λ c κs. search rules) written-word-requires (λ c. search rules) returns)
