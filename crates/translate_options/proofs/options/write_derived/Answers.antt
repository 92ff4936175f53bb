-- Its pieces are the record of (5).
use Prim.Native.Nat.{◌+◌}
use native.Mathlib.Omega.{arith}
use mathlib.Core.Path.{◌∙◌, ap}
use mathlib.Core.Bool.{true, false}
use mathlib.Core.List.{◌++◌}
use Rattle.buffer.specs.Write.{write}
use Rattle.buffer.proofs.Laws.Next.{write-behind}
use Rattle.literal.specs.declared.Literal.TheVariants.{Signed}
use Rattle.literal.specs.Literal.{encoded}
use Rattle.record_walk.specs.Code.{tag_at, option_at}
use Rattle.record_write.specs.Code.{header}
use Rattle.translate_options.specs.Code.{mark_of}
use Rattle.translate_options.proofs.Laws.Options.{pair-written, length-pair, derived-pieces}
use Rattle.translate_options.proofs.options.write_derived.Goals as goal

pub returns : goal.returns
returns c =
    let a = c.args in
    let t = tag_at a.s.now in
    let o = option_at a.s.now a.at in
    let pair = (header 1 1 1 ++ encoded (mark_of true t o)) ++ encoded (Signed o) in
    let one = pair-written a.out.now _ _ _ a.to 1 1 1 (mark_of true t o) (Signed o) (omega arith)
    c.write_header.ensures c.write_mark.ensures c.write_option.ensures in
    write-behind a.out.now a.to pair (a.to + 17) (encoded (mark_of false t o)) (omega arith)
    (omega (arith, length-pair 1 1 1 (mark_of true t o) (Signed o))) one c.write_mark-2.ensures
    ∙ ap (write a.out.now a.to) (derived-pieces t o)
