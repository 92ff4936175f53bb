-- The digit, shifted to the lowest place.
use Rattle.mask.proofs.Laws.Place.{digit-shifted}
use Rattle.mask.proofs.is_in.Goals as goal

pub returns : goal.returns
returns c = digit-shifted c.args.m c.args.i
