-- `pass::is_room` meets its contract: a quotient is no longer than its program, and else its length is measured.
-- Assumes nothing.
use native.Mathlib.Omega.{arith}
use mathlib.Core.Path.{sym, ap}
use lib.Dec.{leb}
use lib.ListN.{length}
use borrow.Author.Tests.{le-leb}
use Rattle.set.specs.Code.{key_set}
use Rattle.quotient.specs.Code.{quotient_of}
use Rattle.quotient.proofs.Laws.Program.{quotient-of-short}
use Rattle.quotient.proofs.pass.is_room.Statement.{statement}
use Rattle.quotient.proofs.pass.is_room.Tie as tie

returns : tie.Need-returns-then-s-room
returns c w =
    let a = c.args in
    let u = key_set a.set.bytes.now a.set.count in
    sym (le-leb (length (quotient_of w.program u)) a.room (omega (arith, quotient-of-short w.program u, ap length w.bytes, c.if-s-room.true)))

returns-2 : tie.Need-returns
returns-2 c w =
    ap (λ n. leb n c.args.room) (c.measure_quotient.ensures w)

pub is_room_spec : {M : Type 1} → statement M
is_room_spec = tie.close (tie.spec returns (λ c κs. c.requires) returns-2)
