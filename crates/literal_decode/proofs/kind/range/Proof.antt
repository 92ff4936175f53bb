-- `kind::range` meets its contract: each bound has two bytes of the number.
-- Assumes nothing.
use native.Mathlib.Omega.{arith}
use borrow.Author.Rules.{rules}
use Rattle.literal.proofs.Laws.Fields.{span-packed}
use Rattle.literal_decode.proofs.kind.range.Statement.{statement}
use Rattle.literal_decode.proofs.kind.range.Tie as tie

returns : tie.Need-returns
returns c = span-packed _ _ _ (omega arith) (omega arith)

pub range_spec : {M : Type 1} → statement M
range_spec = tie.close (tie.spec (λ c. search rules) (λ c. search rules) (λ c. search rules) (λ c. search rules) returns)
