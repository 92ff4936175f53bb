-- A byte is written, and the others are left; at the end none is.
use Rattle.std.proofs.Common.{arith, ◌+◌, ◌-◌, ap, sym, ◌∙◌, [], ◌∷◌, slice_index_or, take, drop}
use Rattle.buffer.specs.Write.{write}
use Rattle.buffer.proofs.Laws.Write.{write-nil, set-write}
use Rattle.buffer.proofs.Laws.Next.{write-left}
use Rattle.record_write.proofs.Laws.Stores.{bytes-next, bytes-none}
use Rattle.record_write.proofs.copy.copy.Goals as goal

pub loop-i-preserved : goal.loop-i-preserved
loop-i-preserved c =
    let a = c.args in
    let l = c.loop-i in
    let s = a.s.now in
    l.invariant ∙ ap (write l.out (a.to + l.i)) (bytes-next s a.from a.count l.i c.loop-i-test.true c.requires.count_in_bounds)
    ∙ write-left l.out (a.to + l.i) (slice_index_or s (a.from + l.i) 0 ∷ []) (a.to + (l.i + 1)) (take (a.count - (l.i + 1)) (drop (a.from + (l.i + 1)) s)) (omega arith) (omega arith) _
    (set-write l.out (a.to + l.i) _ (omega arith))

pub returns : goal.returns
returns c =
    let l = c.loop-i in
    sym (l.invariant ∙ ap (write l.out _) (bytes-none c.args.s.now _ _ (omega arith)) ∙ write-nil l.out _)
