-- `change::put_shape`: three writes, one behind the other.
-- Assumes nothing.
use Rattle.std.proofs.Common.{[], ◌∷◌, ap, ◌∙◌, ◌+◌}
use Rattle.buffer.specs.Write.{write}
use Rattle.assembly.specs.Code.{with_shape}
use Rattle.assembly_state.proofs.change.put_shape.Goals as goal

pub returns : goal.returns
unfolding with_shape
returns c =
    let a = c.args in
    c.put_byte-2.ensures
    ∙ ap (λ st. write st (8 + a.lim.rules + a.place) (a.body ∷ []))
    (c.put_byte.ensures ∙ ap (λ st. write st (8 + a.place) (a.heads ∷ [])) c.put_number.ensures)
