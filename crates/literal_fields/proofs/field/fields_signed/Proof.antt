-- `field::fields_signed` meets its contract, by the sign.
-- Assumes nothing.
use borrow.Author.Rules.{rules}
use Rattle.literal_fields.proofs.field.fields_signed.Statement.{statement}
use Rattle.literal_fields.proofs.field.fields_signed.Tie as tie

returns : tie.Need-returns-in-Positive
returns c = rw c.in-Positive.is

returns-2 : tie.Need-returns-in-Negative
returns-2 c = rw c.in-Negative.is

pub fields_signed_spec : {M : Type 1} → statement M
fields_signed_spec = tie.close (tie.spec (λ c. search rules) (λ c. search rules) (λ c. search rules) returns returns-2)
