-- `clash::oppose` meets its contract, by the sign.
use Rattle.literal.specs.Literal.{opposite}
use Rattle.check_clash.proofs.clash.oppose.Goals as goal

pub returns-in-Positive : goal.returns-in-Positive
unfolding opposite
returns-in-Positive c = rw c.in-Positive.is

pub returns-in-Negative : goal.returns-in-Negative
unfolding opposite
returns-in-Negative c = rw c.in-Negative.is
