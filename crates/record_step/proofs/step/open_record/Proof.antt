-- `step::open_record` meets its contract: a colon or none, and then a case for each letter.
-- Assumes nothing.
use mathlib.Core.Path.{◌∙◌, sym, ap}
use borrow.Author.Rules.{rules}
use Rattle.record.proofs.Laws.Marks.{mark-uncolon, mark-colon, letter-s, letter-d, letter-d-plain, letter-e}
use Rattle.record_step.specs.Code.{opening}
use Rattle.record_step.proofs.Laws.Front.{letter-opens}
use Rattle.record_step.proofs.step.open_record.Statement.{statement}
use Rattle.record_step.proofs.step.open_record.Tie as tie

returns : tie.Need-returns-then-t-ne58
unfolding opening
returns c = let a = c.args in sym (ap opening (mark-uncolon a.lim a.t.now c.if-t-ne58.true))

returns-2 : tie.Need-returns-in-83
unfolding opening
returns-2 c =
    let a = c.args in
    sym (ap opening (mark-colon a.lim a.t.now c.if-t-ne58.false ∙ letter-s a.lim _ c.in-83.is))

returns-3 : tie.Need-returns-then-lim
unfolding opening
returns-3 c =
    let a = c.args in
    sym (ap opening (mark-colon a.lim a.t.now c.if-t-ne58.false ∙ letter-d a.lim _ c.in-68.is c.if-lim.true))

returns-4 : tie.Need-returns-else-lim
unfolding opening
returns-4 c =
    let a = c.args in
    sym (ap opening (mark-colon a.lim a.t.now c.if-t-ne58.false ∙ letter-d-plain a.lim _ c.in-68.is c.if-lim.false))

returns-5 : tie.Need-returns-in-69
unfolding opening
returns-5 c =
    let a = c.args in
    sym (ap opening (mark-colon a.lim a.t.now c.if-t-ne58.false ∙ letter-e a.lim _ c.in-69.is))

returns-6 : tie.Need-returns-in_default
returns-6 c =
    let a = c.args in
    let rest = c.in_default.in_default-own.rest in
    sym (ap opening (mark-colon a.lim a.t.now c.if-t-ne58.false) ∙ letter-opens a.lim _ rest.0.0.1 rest.0.1 rest.1)

pub open_record_spec : {M : Type 1} → statement M
open_record_spec = tie.close (tie.spec (λ c. search rules) returns (λ c. search rules) returns-2 returns-3 returns-4 returns-5 returns-6)
