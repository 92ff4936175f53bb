-- A mark is written, and the others are left; at the end none is.
use Rattle.std.proofs.Common.{arith, ◌+◌, ◌*◌, ◌-◌, ap, sym, ◌∙◌}
use Rattle.buffer.specs.Write.{write}
use Rattle.buffer.proofs.Laws.Write.{write-nil}
use Rattle.buffer.proofs.Laws.Next.{write-left}
use Rattle.literal.proofs.Laws.Literal.{length-encoded}
use Rattle.record_walk.specs.Code.{tag_at, option_at}
use Rattle.translate_options.specs.Code.{mark_of}
use Rattle.translate_options.proofs.Laws.Marks.{marks, marks-next, marks-none}
use Rattle.translate_options.proofs.marks.write_marks.Goals as goal

pub loop-i-preserved : goal.loop-i-preserved
loop-i-preserved c =
    let a = c.args in
    let l = c.loop-i in
    let s = a.s.now in
    let t = tag_at s in
    l.invariant ∙ ap (write l.out (a.to + 5 * l.i)) (marks-next s a.derived t l.i a.heads c.loop-i-test.true)
    ∙ write-left l.out (a.to + 5 * l.i) _ (a.to + 5 * (l.i + 1)) (marks s a.derived t (7 + 5 * (l.i + 1)) (a.heads - (l.i + 1))) (omega arith)
    (omega (arith, length-encoded (mark_of a.derived t (option_at s (7 + 5 * l.i))))) _ c.write_mark.ensures

pub returns : goal.returns
returns c =
    let l = c.loop-i in
    sym (l.invariant ∙ ap (write l.out _) (marks-none _ _ _ _ _ (omega arith)) ∙ write-nil l.out _)
