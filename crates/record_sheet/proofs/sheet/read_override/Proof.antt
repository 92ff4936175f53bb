-- `sheet::read_override` meets its contract: at each return the tests that led there say which step of the definition ends it.
-- Assumes nothing.
use mathlib.Core.Path.{sym, ◌∙◌, ap₂}
use mathlib.Core.Bool.{◌&&◌}
use Prim.Native.Nat.{ℕ, ◌<◌}
use borrow.Author.Rules.{rules}
use borrow.Author.Tests.{leb-true, leb-false}
use Rattle.literal.specs.Literal.{in_range}
use Rattle.record.proofs.Laws.Header.{override-many, override-cut, override-tag, override-same, override-right}
use Rattle.record_sheet.proofs.sheet.read_override.Statement.{statement}
use Rattle.record_sheet.proofs.sheet.read_override.Tie as tie

returns : tie.Need-returns-then-is_full
returns c =
    let a = c.args in
    c.refuse.ensures ∙ sym (override-many a.lim a.held a.t.now (leb-true _ _ (sym c.is_full.ensures ∙ c.if-is_full.true)))

-- where there is room for one more
room : (c : tie.Else-is_full) → (let a = c.args in a.held < a.lim.sheets)
room c = leb-false _ _ (sym c.is_full.ensures ∙ c.if-is_full.false)

returns-2 : tie.Need-returns-then-t-lt6
returns-2 c =
    let a = c.args in
    c.refuse-then-t-lt6.ensures ∙ sym (override-cut a.lim a.held a.t.now (room c.before.before) c.if-t-lt6.true)

returns-3 : tie.Need-returns-then-not-are_tags
returns-3 c =
    let else-t-lt6 = c.before.before.before.before.before in
    let else-is_full = else-t-lt6.before in
    let a = c.args in
    let tags = ap₂ (λ (m n : ℕ). in_range a.lim.tags m && in_range a.lim.tags n) (sym c.get_tag-upper.ensures)
    (sym c.get_tag-lower.ensures) ∙ sym c.are_tags.ensures ∙ c.if-not-are_tags.true in
    c.refuse-then-not-are_tags.ensures ∙ sym (override-tag a.lim a.held a.t.now (room else-is_full) c.if-t-lt6.false tags)

returns-4 : tie.Need-returns-then-upper-lower
returns-4 c =
    let at-are_tags = c.before.before.before.before.before in
    let else-is_full = at-are_tags.before.before.before.before in
    let a = c.args in
    let upper = c.get_tag-upper.ensures in
    let lower = c.get_tag-lower.ensures in
    let tags = ap₂ (λ (m n : ℕ). in_range a.lim.tags m && in_range a.lim.tags n) (sym upper) (sym lower)
    ∙ sym c.are_tags.ensures ∙ c.if-not-are_tags.false in
    c.refuse-then-upper-lower.ensures ∙ sym (override-same a.lim a.held a.t.now (room else-is_full) c.if-t-lt6.false tags
    (sym upper ∙ c.if-upper-lower.true ∙ lower))

returns-5 : tie.Need-returns
returns-5 c =
    let at-get_tag-lower = c.before.before.before.before.before in
    let else-is_full = at-get_tag-lower.before.before.before in
    let a = c.args in
    let upper = c.get_tag-upper.ensures in
    let lower = c.get_tag-lower.ensures in
    let tags = ap₂ (λ (m n : ℕ). in_range a.lim.tags m && in_range a.lim.tags n) (sym upper) (sym lower)
    ∙ sym c.are_tags.ensures ∙ c.if-not-are_tags.false in
    sym (override-right a.lim a.held a.t.now (room else-is_full) c.if-t-lt6.false tags (λ e. c.if-upper-lower.false (upper ∙ e ∙ sym lower)))

pub read_override_spec : {M : Type 1} → statement M
read_override_spec =
    tie.close (tie.spec (λ c κs. search rules) (λ c κs. search rules) returns (λ c κs. search rules) returns-2 (λ c κs. search rules) (λ c κs. search rules)
    (λ c κs. search rules) (λ c κs. search rules) returns-3 (λ c κs. search rules) returns-4 returns-5)
