-- `kind::decode_plain_kind` meets its contract, arm by arm.
-- Assumes nothing.
use native.Mathlib.Omega.{arith}
use mathlib.Core.Path.{sym, ◌∙◌}
use borrow.Author.Rules.{rules}
use Rattle.literal.proofs.Laws.Fields.{plain-untagged, plain-tagged, plain_other}
use Rattle.literal_decode.proofs.kind.decode_plain_kind.Statement.{statement}
use Rattle.literal_decode.proofs.kind.decode_plain_kind.Tie as tie

returns : tie.Need-returns-in-0-to-1
returns c =
    c.range-atom.ensures ∙ sym (plain-untagged _ _ (omega (arith, c.in-0-to-1.if-kind-lt2-own.true)))

returns-2 : tie.Need-returns-in-2-to-5
returns-2 c =
    c.range-mark.ensures ∙ sym (plain-tagged _ _ (omega (arith, c.in-2-to-5.if-kind-lt2-own.false)) (omega (arith, c.in-2-to-5.if-kind-lt6-own.true)))

returns-3 : tie.Need-returns-in_default
returns-3 c =
    c.decode_rule_kind-rule.ensures ∙ sym (plain_other _ _ (omega (arith, c.in_default.if-kind-lt6-own.false)))

pub decode_plain_kind_spec : {M : Type 1} → statement M
decode_plain_kind_spec =
    tie.close (tie.spec (λ c κs. search rules) (λ c κs. search rules) (λ c κs. search rules) returns returns-2 returns-3)
