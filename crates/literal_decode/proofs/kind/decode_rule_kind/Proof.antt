-- `kind::decode_rule_kind` meets its contract, arm by arm.
-- Assumes nothing.
use mathlib.Core.Path.{sym, ◌∙◌}
use borrow.Author.Rules.{rules}
use Rattle.literal.proofs.Laws.Fields.{rule-numbered, rule-refused}
use Rattle.literal_decode.proofs.kind.decode_rule_kind.Statement.{statement}
use Rattle.literal_decode.proofs.kind.decode_rule_kind.Tie as tie

returns : tie.Need-returns-in-6
returns c =
    c.range-rule.ensures ∙ sym (rule-numbered _ _ c.in-6.is)

returns-2 : tie.Need-returns-in_default
returns-2 c =
    c.range-refused.ensures ∙ sym (rule-refused _ _ c.in_default.in_default-own.rest.1)

pub decode_rule_kind_spec : {M : Type 1} → statement M
decode_rule_kind_spec = tie.close (tie.spec (λ c κs. search rules) (λ c κs. search rules) returns returns-2)
