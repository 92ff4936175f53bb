-- `Refusal::behind` meets its contract: what it makes is what the definition says.
-- Assumes nothing.
use Rattle.std.proofs.Common.{refl}
use Rattle.record.specs.Refusal.{shifted}
use Rattle.record.proofs.Refusal.behind.Goals as goal

pub returns : goal.returns
unfolding shifted
returns c = refl
