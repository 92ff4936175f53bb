-- `witness::copy_picked` meets its contract: nothing, or five bytes.
-- Assumes nothing.
use native.Mathlib.Omega.{arith}
use mathlib.Core.Path.{sym, ◌∙◌, ap}
use lib.ListN.{length, take, drop, length-drop}
use lib.Seq.{length-take-le}
use borrow.Author.Rules.{rules}
use Rattle.buffer.specs.Write.{write}
use Rattle.buffer.proofs.Laws.Write.{write-nil}
use Rattle.check_witness.proofs.Laws.Witness.{picked-one, picked_none}
use Rattle.check_witness.proofs.witness.copy_picked.Statement.{statement}
use Rattle.check_witness.proofs.witness.copy_picked.Tie as tie

returns : tie.Need-returns-then-not-is_in
returns c =
    let a = c.args in
    let e = picked_none a.model a.i (take 5 (drop a.at a.set.now)) (sym c.is_in.ensures ∙ c.if-not-is_in.true) in
    (ap length (sym e), sym (ap (write a.out.now a.to) e ∙ write-nil a.out.now a.to))

returns-2 : tie.Need-returns
returns-2 c =
    let a = c.args in
    let bs = take 5 (drop a.at a.set.now) in
    let e = picked-one a.model a.i bs (sym c.is_in.ensures ∙ c.if-not-is_in.false) in (
      sym (ap length e ∙ length-take-le 5 (drop a.at a.set.now) (omega (arith, length-drop a.at a.set.now))),
      ◌∙◌ {b = write a.out.now a.to bs} c.copy.ensures (ap (write a.out.now a.to) (sym e)),
    )

pub copy_picked_spec : {M : Type 1} → statement M
copy_picked_spec = tie.close (tie.spec (λ c κs. search rules) returns (λ c κs. search rules) (λ c. search rules) returns-2)
