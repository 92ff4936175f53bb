-- `size::item_size` meets its contract: a case for each letter.
-- Assumes nothing.
use mathlib.Core.Path.{sym, ◌∙◌}
use borrow.Author.Rules.{rules}
use Rattle.record_walk.proofs.Laws.Items.{size-override, size-opposition, size-rule}
use Rattle.record_walk.proofs.size.item_size.Statement.{statement}
use Rattle.record_walk.proofs.size.item_size.Tie as tie

returns : tie.Need-returns-in-79
returns c = let a = c.args in sym (size-override a.t.now c.in-79.is)

returns-2 : tie.Need-returns-in-88
returns-2 c = let a = c.args in sym (size-opposition a.t.now c.in-88.is)

returns-3 : tie.Need-returns-in_default
returns-3 c =
    let a = c.args in
    c.record_size.ensures ∙ sym (size-rule a.t.now c.in_default.in_default-own.rest.0.1 c.in_default.in_default-own.rest.1)

pub item_size_spec : {M : Type 1} → statement M
item_size_spec = tie.close (tie.spec (λ c. search rules) (λ c κs. search rules) returns returns-2 returns-3)
