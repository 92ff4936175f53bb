-- `show::walk` meets its contract: record by record, as far as the rule before the one that is asked for.
-- Assumes nothing.
use Rattle.std.proofs.Common.{rules, arith, ℕ, ◌≡◌, ◌+◌, ◌-◌, ◌≤◌, List, [], ◌∷◌, length, take, drop, sym}
use lib.ListN.{length-append}
use borrow.Author.Rules.{part_to_end}
use Rattle.record_walk.specs.Code.{Holds}
use Rattle.record_walk.proofs.Laws.Walk.{Along, More, walk-open, walk-rule, pass-start, pass-rule}
use Rattle.record_show.specs.Code.{Numbered}
use Rattle.record_show.proofs.Laws.Extent.{extent-more}
use Rattle.record_show.proofs.show.walk.Goals as goal

-- the record of the rule that is counted next
next : (s : List ℕ) {number at counter : ℕ} (w : Holds (Numbered number) s) (a : Along s w.program at (λ gone. length gone + 1 ≡ counter)) → counter ≤ number
    → More s w.program a.gone at (take (length s - at) (drop at s))
next s {number} {at} w a le = walk-rule a.walk (omega (arith, a.made, w.asked.most, le)) _ (part_to_end s at)

pub loop-init : goal.loop-init
loop-init c = pass-start c.args.s.now (λ gone. length gone + 1 ≡ 1) (omega arith)

pub slice_bounds-record_size-count : goal.slice_bounds-record_size-count
slice_bounds-record_size-count c = omega (arith, walk-open (c.loop.invariant c.requires).walk)

pub slice_bounds-record_size-start : goal.slice_bounds-record_size-start
slice_bounds-record_size-start c = omega (arith, walk-open (c.loop.invariant c.requires).walk)

pub record_size-at-requires : goal.record_size-at-requires
record_size-at-requires c = omega (arith, (next c.args.s.now c.requires (c.loop.invariant c.requires) (omega (arith, c.loop-test.true))).whole)

pub overflow_add-at : goal.overflow_add-at
overflow_add-at c =
    omega (arith, (next c.args.s.now c.requires (c.loop.invariant c.requires) (omega (arith, c.loop-test.true))).fits, c.record_size-at.ensures)

pub loop-preserved : goal.loop-preserved
loop-preserved c =
    let s = c.args.s.now in
    let l = c.loop in
    let test = c.loop-test.true in
    pass-rule l.invariant (λ w. omega (arith, (l.invariant w).made, test, w.asked.most)) _ (part_to_end s l.at) _ c.record_size-at.ensures
    (λ gone. length gone + 1 ≡ l.counter + 1)
    (λ w a m. omega (arith, a.made, length-append a.gone (m.the-rule ∷ [])))

pub slice_bounds-record_size-count-2 : goal.slice_bounds-record_size-count-2
slice_bounds-record_size-count-2 c = omega (arith, walk-open (c.loop.invariant c.requires).walk)

pub slice_bounds-record_size-start-2 : goal.slice_bounds-record_size-start-2
slice_bounds-record_size-start-2 c = omega (arith, walk-open (c.loop.invariant c.requires).walk)

pub record_size-size-requires : goal.record_size-size-requires
record_size-size-requires c =
    omega (arith, (next c.args.s.now c.requires (c.loop.invariant c.requires) (c.loop.auto.counter-end c.requires.asked.one)).whole)

pub returns : goal.returns
returns c w =
    let a = c.loop.invariant w in
    let le = c.loop.auto.counter-end c.requires.asked.one in
    rw c.record_size-size.ensures (sym (extent-more _ (omega (arith, a.made, c.loop-test.false, le)) a.walk (next c.args.s.now w a le)))
