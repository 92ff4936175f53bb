-- `field::fields_at` meets its contract: the kind, then the two numbers behind it.
-- Assumes nothing.
use borrow.Author.Rules.{rules}
use Rattle.literal_fields.proofs.field.fields_at.Statement.{statement}
use Rattle.literal_fields.proofs.field.fields_at.Tie as tie

returns : tie.Need-returns
returns c = rw (← c.get_tag-tag.ensures, ← c.get_number-number.ensures)

pub fields_at_spec : {M : Type 1} → statement M
fields_at_spec = tie.close (tie.spec (λ c. search rules) (λ c κs. search rules) (λ c κs. search rules) returns)
