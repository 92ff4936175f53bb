-- Its pieces are the record of (4).
use native.Mathlib.Omega.{arith}
use mathlib.Core.Path.{◌∙◌, ap}
use mathlib.Core.Bool.{true}
use Rattle.buffer.specs.Write.{write}
use Rattle.literal.specs.declared.Literal.TheVariants.{Signed}
use Rattle.record_walk.specs.Code.{tag_at, option_at}
use Rattle.translate_options.specs.Code.{mark_of}
use Rattle.translate_options.proofs.Laws.Options.{pair-written, holds-pieces}
use Rattle.translate_options.proofs.options.write_holds.Goals as goal

pub returns : goal.returns
returns c =
    let a = c.args in
    let t = tag_at a.s.now in
    let o = option_at a.s.now a.at in
    pair-written a.out.now _ _ _ a.to 1 1 0 (Signed o) (mark_of true t o) (omega arith)
    c.write_header.ensures c.write_option.ensures c.write_mark.ensures
    ∙ ap (write a.out.now a.to) (holds-pieces t o)
