-- `exports::aspda_check_plain` meets its contract: the check's answer has room in its word, and the buffer is the check's.
-- Assumes nothing.
use native.Mathlib.Omega.{arith}
use mathlib.Core.Path.{◌∙◌, ap}
use borrow.Author.Rules.{rules}
use Rattle.literal.specs.Limits.{plain}
use Rattle.aspda_word.specs.Words.{check_word}
use Rattle.aspda.proofs.Laws.Verdicts.{checked-short}
use Rattle.aspda.proofs.exports.aspda_check_plain.Statement.{statement}
use Rattle.aspda.proofs.exports.aspda_check_plain.Tie as tie

check-word-requires : tie.Need-check_word-requires
unfolding plain
check-word-requires c κs =
    let a = c.args in
    checked-short plain (omega arith) (omega arith) (omega arith) a.s.now a.k.now a.out.now
    (λ i. (c.shared_slice_known-1.given i).fits)
    (λ i. (c.shared_slice_known-2-1.given i).fits) _ c.check_plain.ensures.answer

returns : tie.Need-returns
returns c =
    let met = c.check_plain.ensures in
    record { answer = c.check_word.ensures ∙ ap check_word met.answer; buffer = met.buffer }

pub aspda_check_plain_spec : {M : Type 1} → statement M
aspda_check_plain_spec = tie.close (tie.spec (λ c κs. search rules) check-word-requires (λ c. search rules) returns)
