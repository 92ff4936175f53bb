-- An option's records are written, and the others are left; at the end none are.
use Rattle.std.proofs.Common.{arith, ◌+◌, ◌*◌, ◌-◌, ap, sym, ◌∙◌}
use Rattle.buffer.specs.Write.{write}
use Rattle.buffer.proofs.Laws.Write.{write-nil}
use Rattle.buffer.proofs.Laws.Next.{write-left}
use Rattle.record_walk.specs.Code.{tag_at, option_at}
use Rattle.translate_options.proofs.Laws.Options.{option_bytes, option-bytes-next, option-bytes-none, length-option}
use Rattle.translate_options.proofs.options.write_options.Goals as goal

pub loop-i-preserved : goal.loop-i-preserved
loop-i-preserved c =
    let a = c.args in
    let l = c.loop-i in
    let s = a.s.now in
    let t = tag_at s in
    l.invariant ∙ ap (write l.out (a.to + 56 * l.i)) (option-bytes-next s t l.i a.heads c.loop-i-test.true)
    ∙ write-left l.out (a.to + 56 * l.i) _ (a.to + 56 * (l.i + 1)) (option_bytes s t (7 + 5 * (l.i + 1)) (a.heads - (l.i + 1))) (omega arith)
    (omega (arith, length-option t (option_at s (7 + 5 * l.i)))) _ c.write_three.ensures

pub returns : goal.returns
returns c =
    let l = c.loop-i in
    sym (l.invariant ∙ ap (write l.out _) (option-bytes-none _ _ _ _ (omega arith)) ∙ write-nil l.out _)
