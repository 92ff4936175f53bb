-- `sign::sign` meets its contract: the test of the kind decides.
-- Assumes nothing.
use mathlib.Core.Path.{sym, ◌∙◌}
use borrow.Author.Rules.{rules}
use Rattle.literal.specs.Literal.{signed_atom}
use Rattle.literal_decode.proofs.sign.sign.Statement.{statement}
use Rattle.literal_decode.proofs.sign.sign.Tie as tie

returns : tie.Need-returns-then-is_negated
unfolding signed_atom
returns c = rw (sym c.is_negated.ensures ∙ c.if-is_negated.true)

returns-2 : tie.Need-returns-else-is_negated
unfolding signed_atom
returns-2 c = rw (sym c.is_negated.ensures ∙ c.if-is_negated.false)

pub sign_spec : {M : Type 1} → statement M
sign_spec = tie.close (tie.spec (λ c κs. search rules) returns returns-2)
