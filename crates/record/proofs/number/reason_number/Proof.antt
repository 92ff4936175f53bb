-- `number::reason_number` meets its contract: the number of each reason, case by case. Assumes nothing.
use mathlib.Core.Path.{sym, ap}
use borrow.Author.Rules.{rules}
use Rattle.record.specs.Refusal.{reason_number}
use Rattle.record.proofs.number.reason_number.Statement.{statement}
use Rattle.record.proofs.number.reason_number.Tie as tie

returns : tie.Need-returns-in-TooLong
returns c = sym (ap reason_number c.in-TooLong.is)

returns-2 : tie.Need-returns-in-MarkCut
returns-2 c = sym (ap reason_number c.in-MarkCut.is)

returns-3 : tie.Need-returns-in-MarkWrong
returns-3 c = sym (ap reason_number c.in-MarkWrong.is)

returns-4 : tie.Need-returns-in-HeaderCut
returns-4 c = sym (ap reason_number c.in-HeaderCut.is)

returns-5 : tie.Need-returns-in-TooManyRules
returns-5 c = sym (ap reason_number c.in-TooManyRules.is)

returns-6 : tie.Need-returns-in-TagWrong
returns-6 c = sym (ap reason_number c.in-TagWrong.is)

returns-7 : tie.Need-returns-in-TooManyLiterals
returns-7 c = sym (ap reason_number c.in-TooManyLiterals.is)

returns-8 : tie.Need-returns-in-LiteralsCut
returns-8 c = sym (ap reason_number c.in-LiteralsCut.is)

returns-9 : tie.Need-returns-in-LiteralWrong
returns-9 c = sym (ap reason_number c.in-LiteralWrong.is)

returns-10 : tie.Need-returns-in-HeadWrong
returns-10 c = sym (ap reason_number c.in-HeadWrong.is)

returns-11 : tie.Need-returns-in-EndWrong
returns-11 c = sym (ap reason_number c.in-EndWrong.is)

returns-12 : tie.Need-returns-in-OutputShort
returns-12 c = sym (ap reason_number c.in-OutputShort.is)

returns-13 : tie.Need-returns-in-SetWrong
returns-13 c = sym (ap reason_number c.in-SetWrong.is)

returns-14 : tie.Need-returns-in-SetTooLarge
returns-14 c = sym (ap reason_number c.in-SetTooLarge.is)

returns-15 : tie.Need-returns-in-MemberWrong
returns-15 c = sym (ap reason_number c.in-MemberWrong.is)

returns-16 : tie.Need-returns-in-NoSuchRule
returns-16 c = sym (ap reason_number c.in-NoSuchRule.is)

returns-17 : tie.Need-returns-in-TooManySheets
returns-17 c = sym (ap reason_number c.in-TooManySheets.is)

returns-18 : tie.Need-returns-in-SheetCut
returns-18 c = sym (ap reason_number c.in-SheetCut.is)

returns-19 : tie.Need-returns-in-SheetSame
returns-19 c = sym (ap reason_number c.in-SheetSame.is)

returns-20 : tie.Need-returns-in-OutOfTurn
returns-20 c = sym (ap reason_number c.in-OutOfTurn.is)

pub reason_number_spec : {M : Type 1} → statement M
reason_number_spec =
    tie.close (tie.spec (λ c. search rules) (λ c. search rules) (λ c. search rules) (λ c. search rules) (λ c. search rules) (λ c. search rules)
    (λ c. search rules) (λ c. search rules) (λ c. search rules) (λ c. search rules) (λ c. search rules) (λ c. search rules) (λ c. search rules)
    (λ c. search rules) (λ c. search rules) (λ c. search rules) (λ c. search rules) (λ c. search rules) (λ c. search rules) (λ c. search rules) returns returns-2
    returns-3 returns-4 returns-5 returns-6 returns-7 returns-8 returns-9 returns-10 returns-11 returns-12 returns-13 returns-14 returns-15
    returns-16 returns-17 returns-18 returns-19 returns-20)
