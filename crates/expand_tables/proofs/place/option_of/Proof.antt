-- `place::option_of` meets its contract: by the remainder.
-- Assumes nothing.
use Rattle.expand_tables.proofs.Laws.Place.{option-even, option-odd}
use Rattle.expand_tables.proofs.place.option_of.Statement.{statement}
use Rattle.expand_tables.proofs.place.option_of.Tie as tie

returns : tie.Need-returns-then-k-eq0
returns c = option-even c.args.k c.if-k-eq0.true

returns-2 : tie.Need-returns
returns-2 c = option-odd c.args.k c.if-k-eq0.false

pub option_of_spec : {M : Type 1} → statement M
option_of_spec = tie.close (tie.spec returns returns-2)
