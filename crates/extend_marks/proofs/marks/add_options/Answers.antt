-- `marks::add_options` meets its contract: an option more adds its mark, if it is derived.
use Rattle.std.proofs.Common.{◌+◌, ◌*◌, [], ◌∷◌, map, arith}
use Rattle.literal.specs.Order.{key}
use Rattle.record.specs.Header.{head_count}
use Rattle.record_walk.specs.Code.{tag_at, option_at}
use Rattle.set.specs.Code.{key_set}
use Rattle.extend_marks.specs.Marks.{derived_marks}
use Rattle.extend_marks.specs.Code.{Gained}
use Rattle.extend_marks.proofs.Laws.Gained.{gaining-next, gaining-end}
use Rattle.extend_marks.proofs.Laws.Marks.{marks-step, marks-none, gained-few}
use Rattle.extend_marks.proofs.marks.add_options.Goals as goal

pub loop-i-preserved : goal.loop-i-preserved
loop-i-preserved c =
    let x = c.args.part.now in
    let u = key_set c.args.set.bytes.now c.args.set.count in
    let l = c.loop-i in
    let o = option_at x (7 + 5 * l.i) in
    let more = c.add_derived-added in
    let g : Gained l.keys more.new.keys (c.args.n + l.added) more.result (map key (derived_marks (tag_at x) (o ∷ []) u)) =
    rw (← c.tag_at-t.ensures, ← c.option_at-a.ensures) more.ensures in (
      omega (arith, l.invariant.0, gained-few (tag_at x) u o g),
      gaining-next (map key (derived_marks (tag_at x) (o ∷ []) u)) l.invariant.1 g (marks-step (tag_at x) u x 7 (head_count x) l.i c.loop-i-test.true),
    )

pub returns : goal.returns
returns c =
    let x = c.args.part.now in
    gaining-end c.loop-i.invariant.1 (marks-none (tag_at x) (key_set c.args.set.bytes.now c.args.set.count) x _ _ (omega arith))
