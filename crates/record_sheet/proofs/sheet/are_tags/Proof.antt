-- `sheet::are_tags` meets its contract: both tags are asked, the second where the first is right.
-- Assumes nothing.
use mathlib.Core.Path.{sym, ◌∙◌, ap}
use mathlib.Core.Bool.{Bool, ◌&&◌}
use borrow.Author.Rules.{rules}
use Rattle.literal.specs.Literal.{in_range}
use Rattle.record_sheet.proofs.sheet.are_tags.Statement.{statement}
use Rattle.record_sheet.proofs.sheet.are_tags.Tie as tie

returns : tie.Need-returns-then-not-is_tag
returns c =
    let a = c.args in
    sym (ap (λ (b : Bool). b && in_range a.lim.tags a.lower.0) (sym c.is_tag.ensures ∙ c.if-not-is_tag.true))

returns-2 : tie.Need-returns
returns-2 c =
    let a = c.args in
    c.is_tag-2.ensures
    ∙ sym (ap (λ (b : Bool). b && in_range a.lim.tags a.lower.0) (sym c.is_tag.ensures ∙ c.if-not-is_tag.false))

pub are_tags_spec : {M : Type 1} → statement M
are_tags_spec = tie.close (tie.spec (λ c κs. search rules) returns (λ c κs. search rules) returns-2)
