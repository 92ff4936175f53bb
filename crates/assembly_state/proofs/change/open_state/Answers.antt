-- `change::open_state`: zeros, and the first byte. Assumes nothing.
use Rattle.std.proofs.Common.{[], ◌∷◌, replicate, ap, ◌∙◌}
use Rattle.buffer.specs.Write.{write}
use Rattle.assembly.proofs.Laws.Change.{stage-begun}
use Rattle.assembly_state.proofs.change.open_state.Goals as goal

pub returns : goal.returns
returns c =
    c.put_byte.ensures
    ∙ ap (λ st. write st 0 (1 ∷ [])) (c.fill.ensures.after (λ y h. h) ∙ ap (λ n. replicate n 0) c.requires) ∙ stage-begun c.args.lim
