-- `step::read_header` meets its contract: at each return the tests that led there say which step of the definition ends it.
-- Assumes nothing.
use Rattle.std.proofs.Common.{sym, ap, ◌∙◌}
use Rattle.record.specs.Reading.{tag_right}
use Rattle.record.proofs.Laws.Header.{rule-cut, rule-many, rule-tag, rule-counts, rule-body}
use Rattle.record_step.proofs.Laws.Front.{front-refuses}
use Rattle.record_step.proofs.step.read_header.Goals as goal

pub returns-then-t-lt7 : goal.returns-then-t-lt7
returns-then-t-lt7 c = let a = c.args in front-refuses _ _ _ _ _ c.refuse.ensures (rule-cut a.lim a.defeasible a.held a.t.now c.if-t-lt7.true)

pub returns-then-lim-held : goal.returns-then-lim-held
returns-then-lim-held c =
    let a = c.args in
    front-refuses _ _ _ _ _ c.refuse-then-lim-held.ensures (rule-many a.lim a.defeasible a.held a.t.now c.if-t-lt7.false c.if-lim-held.true)

pub returns-then-not-is_tag_right : goal.returns-then-not-is_tag_right
returns-then-not-is_tag_right c =
    let a = c.args in
    let tag = ap (tag_right a.lim a.defeasible) (sym c.get_tag-tag.ensures) ∙ sym c.is_tag_right.ensures ∙ c.if-not-is_tag_right.true in
    front-refuses _ _ _ _ _ c.refuse-then-not-is_tag_right.ensures
    (rule-tag a.lim a.defeasible a.held a.t.now c.if-t-lt7.false c.if-lim-held.false tag)

pub returns-then-not-are_counts_kept : goal.returns-then-not-are_counts_kept
returns-then-not-are_counts_kept c =
    let a = c.args in
    let tag = ap (tag_right a.lim a.defeasible) (sym c.get_tag-tag.ensures) ∙ sym c.is_tag_right.ensures ∙ c.if-not-is_tag_right.false in
    let counts = sym c.are_counts_kept.ensures ∙ c.if-not-are_counts_kept.true in
    front-refuses _ _ _ _ _ c.refuse-then-not-are_counts_kept.ensures
    (rule-counts a.lim a.defeasible a.held a.t.now c.if-t-lt7.false c.if-lim-held.false tag counts)

pub returns : goal.returns
returns c =
    let a = c.args in
    let tag = ap (tag_right a.lim a.defeasible) (sym c.get_tag-tag.ensures) ∙ sym c.is_tag_right.ensures ∙ c.if-not-is_tag_right.false in
    let counts = sym c.are_counts_kept.ensures ∙ c.if-not-are_counts_kept.false in
    record {
      whole = c.if-t-lt7.false;
      step = rule-body a.lim a.defeasible a.held a.t.now c.if-t-lt7.false c.if-lim-held.false tag counts;
      form = c.requires;
    }
