-- `header::write_set_header` meets its contract: two stores and a number behind them.
-- Assumes nothing.
use native.Mathlib.Omega.{arith}
use mathlib.Core.Path.{◌∙◌}
use lib.ListN.{length-set}
use borrow.Author.Rules.{rules}
use Rattle.set.proofs.Laws.Header.{set-header-stores}
use Rattle.set.proofs.header.write_set_header.Statement.{statement}
use Rattle.set.proofs.header.write_set_header.Tie as tie

same_length : tie.Need-shape_of-out
same_length c = c.put_number.auto.out ∙ simp length-set

returns : tie.Need-returns
returns c =
    let a = c.args in
    set-header-stores a.out.now _ a.count (omega arith) c.put_number.ensures

pub write_set_header_spec : {M : Type 1} → statement M
write_set_header_spec =
    tie.close (tie.spec (λ c. search rules) (λ c. simp length-set (omega arith)) (λ c κs. simp length-set (omega arith)) same_length
    returns)
