-- `inspect::inspect_source`: a source's limits, as `inspect` asks them.
-- Assumes nothing.
use Rattle.std.proofs.Common.{sym, subst}
use Rattle.assembly.specs.Code.{Assemblable}
use Rattle.assembly.proofs.Laws.Forms.{assemblable-source}
use Rattle.assembly_state.proofs.inspect.inspect_source.Goals as goal

pub inspect-requires : goal.inspect-requires
inspect-requires c = subst Assemblable (sym c.limits.ensures) assemblable-source
