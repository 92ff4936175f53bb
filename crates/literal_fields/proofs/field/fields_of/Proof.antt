-- `field::fields_of` meets its contract, case by case of the literal.
-- Assumes nothing.
use mathlib.Core.Path.{sym, ◌∙◌}
use borrow.Author.Rules.{rules}
use Rattle.literal.proofs.Laws.Fields.{fields-signed, fields-defeated, fields-derived, fields-rule}
use Rattle.literal_fields.proofs.field.fields_of.Statement.{statement}
use Rattle.literal_fields.proofs.field.fields_of.Tie as tie

returns : tie.Need-returns-in-Signed
returns c = rw c.in-Signed.is (c.fields_signed.ensures ∙ sym (fields-signed _))

returns-2 : tie.Need-returns-in-Defeated
returns-2 c =
    rw c.in-Defeated.is (c.fields_signed-in-Defeated.ensures ∙ sym (fields-defeated _ _))

returns-3 : tie.Need-returns-in-Derived
returns-3 c =
    rw c.in-Derived.is (c.fields_signed-in-Derived.ensures ∙ sym (fields-derived _ _))

returns-4 : tie.Need-returns-in-RuleDefeated
returns-4 c = rw c.in-RuleDefeated.is (sym (fields-rule _))

pub fields_of_spec : {M : Type 1} → statement M
fields_of_spec =
    tie.close (tie.spec (λ c. search rules) (λ c κs. search rules) (λ c. search rules) (λ c κs. search rules) (λ c. search rules)
    (λ c κs. search rules) (λ c. search rules) returns returns-2 returns-3 returns-4)
