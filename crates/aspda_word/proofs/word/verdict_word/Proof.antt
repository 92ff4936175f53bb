-- `word::verdict_word` meets its contract, case by case.
-- Assumes nothing.
use native.Mathlib.Omega.{arith}
use mathlib.Core.Path.{sym, ap, subst}
use borrow.Author.Rules.{rules}
use Rattle.aspda_word.specs.Words.{verdict_word}
use Rattle.aspda_word.specs.Code.{ShortVerdict}
use Rattle.aspda_word.proofs.word.verdict_word.Statement.{statement}
use Rattle.aspda_word.proofs.word.verdict_word.Tie as tie

add-result : tie.Need-overflow_add-result
add-result c = omega (arith, subst ShortVerdict c.in-Clash.is c.requires)

add-result-3 : tie.Need-overflow_add-result-in-Smaller
add-result-3 c = omega (arith, subst ShortVerdict c.in-Smaller.is c.requires)

returns : tie.Need-returns-in-Clash
returns c = sym (ap verdict_word c.in-Clash.is)

returns-2 : tie.Need-returns-in-Broken
returns-2 c = sym (ap verdict_word c.in-Broken.is)

returns-3 : tie.Need-returns-in-Smaller
returns-3 c = sym (ap verdict_word c.in-Smaller.is)

returns-4 : tie.Need-returns-in-Yes
returns-4 c = sym (ap verdict_word c.in-Yes.is)

pub verdict_word_spec : {M : Type 1} → statement M
verdict_word_spec =
    tie.close (tie.spec (λ c. search rules) add-result (λ c. search rules) (λ c. search rules) (λ c. search rules) (λ c. search rules)
    add-result-3 (λ c. search rules) returns returns-2 returns-3 returns-4)
