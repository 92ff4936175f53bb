-- Its pieces are the record of (6).
use native.Mathlib.Omega.{arith}
use mathlib.Core.Path.{◌∙◌, ap}
use mathlib.Core.Bool.{true, false}
use Rattle.buffer.specs.Write.{write}
use Rattle.record_walk.specs.Code.{tag_at, option_at}
use Rattle.translate_options.specs.Code.{mark_of}
use Rattle.translate_options.proofs.Laws.Options.{pair-written, never-both-pieces}
use Rattle.translate_options.proofs.options.write_never_both.Goals as goal

pub returns : goal.returns
returns c =
    let a = c.args in
    let t = tag_at a.s.now in
    let o = option_at a.s.now a.at in
    pair-written a.out.now _ _ _ a.to 0 2 0 (mark_of true t o) (mark_of false t o) (omega arith)
    c.write_header.ensures c.write_mark.ensures c.write_mark-2.ensures
    ∙ ap (write a.out.now a.to) (never-both-pieces t o)
