-- `call::heads_byte` meets its contract, by the record's letter. Assumes nothing.
use native.Mathlib.Omega.{arith}
use borrow.Author.Rules.{rules}
use Rattle.assembly_call.proofs.Laws.Calls.{heads-defeasible, heads-strict}
use Rattle.assembly_call.proofs.call.heads_byte.Statement.{statement}
use Rattle.assembly_call.proofs.call.heads_byte.Tie as tie

add-result : tie.Need-overflow_add-result
add-result c = omega (arith, c.requires.1)

returns : tie.Need-returns-then-rule-eq68
returns c = heads-defeasible _ c.if-rule-eq68.true

returns-2 : tie.Need-returns
returns-2 c = heads-strict _ c.if-rule-eq68.false

pub heads_byte_spec : {M : Type 1} → statement M
heads_byte_spec = tie.close (tie.spec (λ c. search rules) (λ c. search rules) add-result returns (λ c. search rules) returns-2)
