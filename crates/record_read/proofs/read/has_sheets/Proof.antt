-- `read::has_sheets` meets its contract: overrides are asked first.
-- Assumes nothing.
use mathlib.Core.Path.{sym, ap}
use mathlib.Core.Bool.{Bool, ◌||◌}
use lib.Dec.{ltb}
use borrow.Author.Tests.{le-ltb, lt-ltb}
use Rattle.record.specs.Code.{sheeted}
use Rattle.record_read.proofs.read.has_sheets.Statement.{statement}
use Rattle.record_read.proofs.read.has_sheets.Tie as tie

returns : tie.Need-returns-then-held-gt0
unfolding sheeted
returns c =
    let h = c.args.held in
    sym (ap (λ (b : Bool). b || ltb 0 h.oppositions) (lt-ltb 0 h.overrides c.if-held-gt0.true))

returns-2 : tie.Need-returns
unfolding sheeted
returns-2 c =
    let h = c.args.held in
    sym (ap (λ (b : Bool). b || ltb 0 h.oppositions) (le-ltb 0 h.overrides c.if-held-gt0.false))

pub has_sheets_spec : {M : Type 1} → statement M
has_sheets_spec = tie.close (tie.spec returns returns-2)
