-- By the letter of the record's mark.
use borrow.Author.Tests.{eq-eqb, ne_eqb}
use Rattle.record.specs.Header.{defeasible_letter, letter_of}
use Rattle.translate_rule.specs.Code.{count_at}
use Rattle.translate_rule.proofs.rules.count_rules.Goals as goal

pub returns-then-s-eq68 : goal.returns-then-s-eq68
unfolding count_at
returns-then-s-eq68 c = rw (eq-eqb (letter_of c.args.s.now) defeasible_letter c.if-s-eq68.true)

pub returns-else-s-eq68 : goal.returns-else-s-eq68
unfolding count_at
returns-else-s-eq68 c = rw (ne_eqb (letter_of c.args.s.now) defeasible_letter c.if-s-eq68.false)
