-- `sheet::read_opposition` meets its contract: one too many, cut, or what its two options come to.
-- Assumes nothing.
use Prim.Native.Nat.{◌<◌}
use native.Mathlib.Omega.{arith}
use mathlib.Core.Path.{sym, ◌∙◌, ap}
use lib.ListN.{length-take, length-drop}
use borrow.Author.Rules.{rules}
use borrow.Author.Tests.{leb-true, leb-false}
use borrow.Author.Rules.{part_to_end}
use Rattle.literal.specs.Literal.{decoded}
use Rattle.record.proofs.Laws.Header.{opposition-many, opposition-cut}
use Rattle.record_sheet.specs.Code.{is_signed}
use Rattle.record_sheet.proofs.Laws.Sheet.{opposition-pair, pair-told}
use Rattle.record_sheet.proofs.sheet.read_opposition.Statement.{statement}
use Rattle.record_sheet.proofs.sheet.read_opposition.Tie as tie

returns : tie.Need-returns-then-is_full
returns c =
    let a = c.args in
    c.refuse.ensures ∙ sym (opposition-many a.lim a.held a.t.now (leb-true _ _ (sym c.is_full.ensures ∙ c.if-is_full.true)))

-- where there is room for one more
room : (c : tie.Else-is_full) → (let a = c.args in a.held < a.lim.sheets)
room c = leb-false _ _ (sym c.is_full.ensures ∙ c.if-is_full.false)

returns-2 : tie.Need-returns-then-t-lt12
returns-2 c =
    let a = c.args in
    c.refuse-then-t-lt12.ensures ∙ sym (opposition-cut a.lim a.held a.t.now (room c.before.before) c.if-t-lt12.true)

returns-3 : tie.Need-returns
returns-3 c =
    let at-is_option-arg = c.before.before.before.before.before in
    let else-is_full = at-is_option-arg.before.before in
    let a = c.args in
    let t = a.t.now in
    let one = ap (λ x. is_signed (decoded a.lim x)) (sym (part_to_end t 2)) ∙ sym c.is_option-one.ensures in
    let other = ap (λ x. is_signed (decoded a.lim x)) (sym (part_to_end t 7)) ∙ sym c.is_option-other.ensures in
    c.judge_pair.ensures
    ∙ sym (opposition-pair a.lim a.held t (room else-is_full) c.if-t-lt12.false ∙ pair-told one other (sym c.is_pair_same.ensures))

pub read_opposition_spec : {M : Type 1} → statement M
read_opposition_spec =
    tie.close (tie.spec (λ c κs. search rules) (λ c κs. search rules) returns (λ c κs. search rules) returns-2 (λ c. search rules) (λ c. search rules)
    (λ c. search rules) (λ c κs. simp (length-take, length-drop) (omega arith)) (λ c. search rules) (λ c. search rules) (λ c. search rules)
    (λ c κs. simp (length-take, length-drop) (omega arith)) (λ c κs. search rules) (λ c κs. search rules) returns-3)
