-- All digits set, shifted to the n lowest places.
use Rattle.mask.proofs.Laws.Place.{ones-shifted}
use Rattle.mask.proofs.all_below.Goals as goal

pub returns : goal.returns
returns c = ones-shifted c.args.n c.requires
