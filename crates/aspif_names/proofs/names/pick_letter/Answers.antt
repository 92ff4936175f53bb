-- `names::pick_letter`: each letter by its sign.
-- Assumes nothing.
use Rattle.std.proofs.Common.{sym, ap}
use Rattle.aspif_names.specs.Code.{letter_of}
use Rattle.aspif_names.proofs.names.pick_letter.Goals as goal

pub returns-then-negated : goal.returns-then-negated
unfolding letter_of
returns-then-negated c = ap letter_of (sym c.if-negated.true)

pub returns : goal.returns
unfolding letter_of
returns c = ap letter_of (sym c.if-negated.false)
