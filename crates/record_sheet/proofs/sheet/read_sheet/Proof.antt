-- `sheet::read_sheet` meets its contract: 3 for what is no mark of the form, and a case for each letter.
-- Assumes nothing.
use native.Mathlib.Omega.{arith}
use mathlib.Core.Path.{◌≡◌, sym, ap, ◌∙◌}
use borrow.Author.Rules.{rules}
use Rattle.record.specs.Header.{letter_of}
use Rattle.record.specs.Reading.{mark_at}
use Rattle.record.proofs.Laws.Marks.{letter_mark, mark-uncolon, mark-colon, letter-o, letter-x}
use Rattle.record.proofs.Laws.Header.{record-override, record-opposition, record-unmarked}
use Rattle.record_step.specs.declared.Opening.{Opening}
use Rattle.record_step.specs.Code.{opening}
use Rattle.record_step.proofs.Laws.Front.{other-unmarked, letter-unmarked}
use Rattle.record_sheet.proofs.sheet.read_sheet.Statement.{statement}
use Rattle.record_sheet.proofs.sheet.read_sheet.Tie as tie

returns : tie.Need-returns-then-t-ne58
returns c =
    let a = c.args in
    c.refuse.ensures ∙ sym (record-unmarked a.lim a.held a.t.now c.requires.whole (mark-uncolon a.lim a.t.now c.if-t-ne58.true))

returns-2 : tie.Need-returns-then-lim-eq0
returns-2 c =
    let a = c.args in
    c.refuse-then-lim-eq0.ensures ∙ sym (record-unmarked a.lim a.held a.t.now c.requires.whole
    (other-unmarked a.lim a.t.now c.requires c.if-lim-eq0.true))

-- behind a colon the letter says what the mark is, and that it is another one
mark_of : (c : tie.Else-t-ne58) → (let a = c.args in mark_at a.lim a.t.now ≡ letter_mark a.lim (letter_of a.t.now))
mark_of c = let a = c.args in mark-colon a.lim a.t.now c.if-t-ne58.false

other : (c : tie.Else-t-ne58) → (let a = c.args in opening (letter_mark a.lim (letter_of a.t.now)) ≡ Opening.Other)
other c = ap opening (sym (mark_of c)) ∙ c.requires.other

returns-3 : tie.Need-returns-in-79
returns-3 c =
    let else-t-ne58 = c.before.before.before.before.before in
    let a = c.args in
    c.read_override.ensures ∙ sym (record-override a.lim a.held a.t.now c.requires.whole
    (mark_of else-t-ne58 ∙ letter-o a.lim _ c.in-79.is (omega (arith, c.if-lim-eq0.false))))

returns-4 : tie.Need-returns-in-88
returns-4 c =
    let else-t-ne58 = c.before.before.before.before.before in
    let a = c.args in
    c.read_opposition.ensures ∙ sym (record-opposition a.lim a.held a.t.now c.requires.whole
    (mark_of else-t-ne58 ∙ letter-x a.lim _ c.in-88.is (omega (arith, c.if-lim-eq0.false))))

returns-5 : tie.Need-returns-in_default
returns-5 c =
    let else-t-ne58 = c.before.before.before.before.before in
    let a = c.args in
    let rest = c.in_default.in_default-own.rest in
    c.refuse-in_default.ensures ∙ sym (record-unmarked a.lim a.held a.t.now c.requires.whole
    (mark_of else-t-ne58 ∙ letter-unmarked a.lim _ (other else-t-ne58) rest.0.1 rest.1))

pub read_sheet_spec : {M : Type 1} → statement M
read_sheet_spec =
    tie.close (tie.spec (λ c. omega (arith, c.requires.whole)) (λ c κs. search rules) returns (λ c κs. search rules) returns-2
    (λ c. omega (arith, c.requires.whole)) (λ c κs. search rules) (λ c κs. search rules) (λ c κs. search rules) returns-3 returns-4 returns-5)
