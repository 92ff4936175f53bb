-- A rule's marks are collected behind those before it; a sheet's record leaves the rules that are gone as they are.
use Rattle.std.proofs.Common.{rules as known, ◌≡◌, ◌⊎◌, inl, inr, slice_index_or, ◌+◌, arith, sym, subst}
use Rattle.semantics.specs.Item.{rules}
use Rattle.record_walk.proofs.Laws.ItemRecords.{items-passing-start, passed-item, items-passing-next, items-passed-end}
use Rattle.set.specs.Code.{key_set}
use Rattle.extend_marks.proofs.Laws.Gained.{gained-fits}
use Rattle.extend_marks.proofs.Laws.Collect.{Collected, collected-start, next-rule, rules-stay, next-few, next-room, collected-next}
use Rattle.extend_marks.proofs.marks.collect_marks.Goals as goal
use Rattle.extend_marks.proofs.marks.collect_marks.Goals.{else-letter-ne79-via-then-letter-ne79+else-letter-ne88, else-letter-ne79-via-else-letter-ne79}

pub loop-part-init : goal.loop-part-init
unfolding rules
loop-part-init c =
    let a = c.args in
    items-passing-start a.s.now _ _ (search known) (collected-start (key_set a.set.bytes.now a.set.count) a.keys.now)

pub add_rule-n-requires-clause-part_in_bounds : goal.add_rule-n-requires-clause-part_in_bounds
add_rule-n-requires-clause-part_in_bounds c =
    let a = c.loop-part.invariant c.requires in
    let m = passed-item a c.in-Some.ensures.steps in
    omega (arith, m.whole, (next-rule m c.if-letter-ne79.true c.if-letter-ne88.true).size)

pub add_rule-n-requires-clause-roomy : goal.add_rule-n-requires-clause-roomy
add_rule-n-requires-clause-roomy c e =
    let a = c.loop-part.invariant c.requires in
    let m = next-rule (passed-item a c.in-Some.ensures.steps) c.if-letter-ne79.true c.if-letter-ne88.true in
    let room = next-room m c.requires.asked a.made e in
    (omega (arith, room.0, c.loop-part.auto.keys), omega (arith, room.1, c.loop-part.auto.keys))

pub overflow_add-n : goal.overflow_add-n
overflow_add-n c =
    let a = c.loop-part.invariant c.requires in
    let m = next-rule (passed-item a c.in-Some.ensures.steps) c.if-letter-ne79.true c.if-letter-ne88.true in
    let g = c.add_rule-n.ensures m.the-rule m.starts in
    omega (arith, gained-fits (collected-next m _ a.made g).gained, g.same)

pub overflow_add-number : goal.overflow_add-number
overflow_add-number c =
    let a = c.loop-part.invariant c.requires in
    let m = next-rule (passed-item a c.in-Some.ensures.steps) c.if-letter-ne79.true c.if-letter-ne88.true in
    omega (arith, next-few m, a.made.numbered, c.requires.asked.short)

pub loop-part-preserved-then-letter-ne88 : goal.loop-part-preserved-then-letter-ne88
loop-part-preserved-then-letter-ne88 c =
    let l = c.loop-part in
    let added = c.add_rule-n in
    let u = key_set c.args.set.bytes.now c.args.set.count in
    items-passing-next l.invariant c.in-Some.ensures.steps
    (λ gone. Collected u c.args.keys.now _ (l.number + 1) (l.n + added.result) (rules gone))
    (λ w a m.
    let r = next-rule m c.if-letter-ne79.true c.if-letter-ne88.true in
    collected-next r added.result a.made (added.ensures r.the-rule r.starts))

pub loop-part-preserved : goal.loop-part-preserved
loop-part-preserved c =
    let l = c.loop-part in
    let u = key_set c.args.set.bytes.now c.args.set.count in
    let sheet : (slice_index_or c.in-Some.part.now 0 0 ≡ 79) ⊎ (slice_index_or c.in-Some.part.now 0 0 ≡ 88) =
    elim c.else-letter-ne79.branch [
      | else-letter-ne79-via-then-letter-ne79+else-letter-ne88 w ↦ inr (omega (arith, w.if-letter-ne88.false))
      | else-letter-ne79-via-else-letter-ne79 w ↦ inl (omega (arith, w.if-letter-ne79.false))
    ] in
    items-passing-next l.invariant c.in-Some.ensures.steps (λ gone. Collected u c.args.keys.now l.keys l.number l.n (rules gone))
    (λ w a m. subst (Collected u c.args.keys.now l.keys l.number l.n) (sym (rules-stay m sheet)) a.made)

pub returns : goal.returns
returns c w = (items-passed-end (c.loop-part.invariant w) c.in-None.ensures.steps).gained
