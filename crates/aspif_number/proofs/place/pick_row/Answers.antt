-- `place::pick_row`: arm by arm.
-- Assumes nothing.
use Rattle.std.proofs.Common.{arith}
use Rattle.aspif_place.proofs.Laws.Place.{row-atoms}
use Rattle.aspif_number.proofs.Laws.Place.{row-mark, row_last}
use Rattle.aspif_number.proofs.place.pick_row.Goals as goal

pub returns-in-0-to-1 : goal.returns-in-0-to-1
returns-in-0-to-1 c = omega (arith, row-atoms c.args.kind c.args.tag (omega arith))

pub returns-in-2-to-5 : goal.returns-in-2-to-5
returns-in-2-to-5 c = omega (arith, row-mark c.args.kind c.args.tag (omega arith) (omega arith))

pub returns-in_default : goal.returns-in_default
returns-in_default c = omega (arith, row_last c.args.kind c.args.tag (omega arith))
