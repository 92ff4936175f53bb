-- `inspect::stand_before`: nothing is held.
-- Assumes nothing.
use Rattle.std.proofs.Common.{refl}
use Rattle.assembly.specs.State.{shapes, held_length}
use Rattle.assembly.specs.Code.{is_open, standing_of}
use Rattle.assembly_state.proofs.inspect.stand_before.Goals as goal

pub returns : goal.returns
unfolding standing_of is_open shapes held_length
returns c = refl
