-- By cases on the kind of mark.
use Rattle.translate_options.specs.Code.{mark_of}
use Rattle.translate_options.proofs.marks.mark_option.Goals as goal

pub returns-then-derived : goal.returns-then-derived
unfolding mark_of
returns-then-derived c = rw c.if-derived.true

pub returns-else-derived : goal.returns-else-derived
unfolding mark_of
returns-else-derived c = rw c.if-derived.false
