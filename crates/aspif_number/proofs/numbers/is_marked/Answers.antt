-- `numbers::is_marked`: the place's digit in its word.
-- Assumes nothing.
use Rattle.aspif_place.specs.Code.{marked}
use Rattle.aspif_number.proofs.numbers.is_marked.Goals as goal

pub returns : goal.returns
unfolding marked
returns c = c.is_in.ensures
