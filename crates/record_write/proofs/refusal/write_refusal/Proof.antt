-- `refusal::write_refusal` meets its contract: three stores, and two numbers behind them.
-- Assumes nothing.
use native.Mathlib.Omega.{arith}
use mathlib.Core.Path.{◌∙◌}
use lib.ListN.{length-set}
use borrow.Author.Rules.{rules}
use Rattle.record_write.proofs.Laws.Stores.{refusal-stores}
use Rattle.record_write.proofs.refusal.write_refusal.Statement.{statement}
use Rattle.record_write.proofs.refusal.write_refusal.Tie as tie

put-number-requires-2 : tie.Need-put_number-requires-2
put-number-requires-2 c κs = omega (arith, simp length-set at c.put_number.auto.out)

same_length : tie.Need-shape_of-out
same_length c =
    c.put_number-2.auto.out ∙ c.put_number.auto.out ∙ simp length-set

returns : tie.Need-returns
returns c =
    let a = c.args in refusal-stores a.out.now _ _ a.x _ c.requires.1 c.reason_number-number.ensures
    c.put_number.ensures c.put_number-2.ensures

pub write_refusal_spec : {M : Type 1} → statement M
write_refusal_spec =
    tie.close (tie.spec (λ c κs. search rules) (λ c. search rules) (λ c. simp length-set (omega arith)) (λ c. simp length-set (omega arith))
    (λ c. search rules) (λ c κs. simp length-set (omega arith)) (λ c. search rules) put-number-requires-2 same_length returns)
