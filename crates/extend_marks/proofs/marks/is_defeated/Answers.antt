-- `marks::is_defeated` meets its contract: the options one by one.
use Rattle.std.proofs.Common.{◌≡◌, ◌+◌, ◌*◌, sym, ◌∙◌, arith}
use Rattle.literal.specs.declared.Literal.TheVariants.{Defeated}
use Rattle.record.specs.Header.{head_count}
use Rattle.record_walk.specs.Code.{tag_at, option_at}
use Rattle.set.specs.Code.{key_set}
use Rattle.extend_marks.proofs.Laws.Marks.{defeated-step, defeated-not, defeated-none}
use Rattle.extend_marks.proofs.marks.is_defeated.Goals as goal

pub returns-then-not-has : goal.returns-then-not-has
returns-then-not-has c =
    let x = c.args.part.now in
    let u = key_set c.args.set.bytes.now c.args.set.count in
    let found : c.has.result ≡ u (Defeated (tag_at x) (option_at x (7 + 5 * c.loop-i.i))) = rw (← c.tag_at-t.ensures, ← c.option_at-a.ensures) c.has.ensures in
    sym (c.loop-i.invariant ∙ defeated-not (tag_at x) u x _ _ (omega arith) (sym found ∙ c.if-not-has.true))

pub loop-i-preserved : goal.loop-i-preserved
loop-i-preserved c =
    let x = c.args.part.now in
    let u = key_set c.args.set.bytes.now c.args.set.count in
    let found : c.has.result ≡ u (Defeated (tag_at x) (option_at x (7 + 5 * c.loop-i.i))) = rw (← c.tag_at-t.ensures, ← c.option_at-a.ensures) c.has.ensures in
    c.loop-i.invariant ∙ defeated-step (tag_at x) u x 7 (head_count x) c.loop-i.i c.loop-i-test.true (sym found ∙ c.if-not-has.false)

pub returns : goal.returns
returns c =
    let x = c.args.part.now in
    sym (c.loop-i.invariant ∙ defeated-none (tag_at x) (key_set c.args.set.bytes.now c.args.set.count) x _ _ (omega arith))
