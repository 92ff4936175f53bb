-- `sheets::is_new` meets its contract.
-- Assumes nothing.
use Prim.Native.Nat.{ℕ}
use mathlib.Core.Path.{ap₂}
use mathlib.Core.Bool.{Bool, ◌&&◌}
use lib.Bits.{bit_and}
use lib.Dec.{eqb}
use borrow.Author.Rules.{rules}
use Rattle.expand_tables.specs.Code.{is_new}
use Rattle.expand_tables.proofs.sheets.is_new.Statement.{statement}
use Rattle.expand_tables.proofs.sheets.is_new.Tie as tie

returns : tie.Need-returns
unfolding is_new
returns c =
    let a = c.args in
    ap₂ (λ (n : ℕ) (t : Bool). eqb (bit_and a.w a.same) n && t) c.single_at.ensures c.is_in.ensures

pub is_new_spec : {M : Type 1} → statement M
is_new_spec = tie.close (tie.spec (λ c κs. search rules) (λ c κs. search rules) returns)
