-- `valid::is_literal` meets its contract: bytes spell a literal exactly where the last two fields may stand behind the kind.
-- Assumes nothing.
use mathlib.Core.Path.{sym, ◌∙◌}
use borrow.Author.Rules.{rules}
use Rattle.literal.proofs.Laws.Fields.{valid-behind}
use Rattle.literal_decode.proofs.valid.is_literal.Statement.{statement}
use Rattle.literal_decode.proofs.valid.is_literal.Tie as tie

returns : tie.Need-returns
returns c =
    let a = c.args in
    c.are_in_ranges.ensures ∙ sym (valid-behind a.lim a.s.now _ _ c.fields_at-f.ensures c.decode_kind-ranges.ensures)

pub is_literal_spec : {M : Type 1} → statement M
is_literal_spec = tie.close (tie.spec (λ c κs. search rules) (λ c κs. search rules) (λ c κs. search rules) returns)
