-- `build::build` meets its contract: a rule more is counted, and its clause is stored, if it has one that holds.
use Rattle.std.proofs.Common.{◌≡◌, ◌+◌, arith, rules, sym, subst}
use Rattle.buffer.specs.Bytes.{Bytes}
use Rattle.buffer.proofs.Laws.Bytes.{bytes-front, bytes-behind}
use Rattle.record_walk.proofs.Laws.Records.{passing-start, passing-next}
use Rattle.check_clauses.proofs.Laws.Build.{ahead, Counted, counted_next, counted_past, written_start, built-whole, built-broken, built-next, built-past}
use Rattle.check_clauses.proofs.build.build.Goals as goal

pub loop-i-init : goal.loop-i-init
loop-i-init c =
    let s = c.args.s.now in
    let same : c.into_iter-i-iterator.result.iter.rest.now ≡ s = search rules in
    record {
      bytes = subst Bytes (sym same) (λ i. (c.type_inv.s i).fits);
      counted = passing-start s _ (Counted _ 0) same (record { numbered = search rules; few = omega arith });
      building = λ ls e k. passing-start s _ _ same (written_start ls c.args.clauses.now _ (search rules));
    }

pub clause_of-requires : goal.clause_of-requires
clause_of-requires c = (ahead c.requires c.loop-i.invariant.counted c.in-Some.ensures.steps.0).whole

pub overflow_cast-result : goal.overflow_cast-result
overflow_cast-result c =
    let s = c.in-Some.ensures.steps in
    omega (arith, (ahead c.requires c.loop-i.invariant.counted s.0).numbered, s.1)

pub overflow_add-result : goal.overflow_add-result
overflow_add-result c =
    let s = c.in-Some.ensures.steps in
    omega (arith, (ahead c.requires c.loop-i.invariant.counted s.0).numbered, s.1)

pub returns-then-c-eq0 : goal.returns-then-c-eq0
returns-then-c-eq0 c =
    let l = c.loop-i in
    let s = c.in-Some.ensures.steps in
    let chars = bytes-front c.in-Some.part.now _ (subst Bytes s.0.bytes l.invariant.bytes) in
    built-broken c.args.set.set.are_bytes l.invariant.building s.0 chars c.in-Some-clause_of.c c.in-Some-clause_of.ensures c.if-c-eq0.true
    c.in-Some.i s.1 l.clauses

pub offset_bounds-clauses-count : goal.offset_bounds-clauses-count
offset_bounds-clauses-count c =
    let a = ahead c.requires c.loop-i.invariant.counted c.in-Some.ensures.steps.0 in omega (arith, a.counted, a.numbered)

pub bounds-clauses-count : goal.bounds-clauses-count
bounds-clauses-count c =
    omega (arith, (ahead c.requires c.loop-i.invariant.counted c.in-Some.ensures.steps.0).roomy, c.loop-i.auto.clauses)

pub overflow_add-count : goal.overflow_add-count
overflow_add-count c = let a = ahead c.requires c.loop-i.invariant.counted c.in-Some.ensures.steps.0 in omega (arith, a.counted, a.numbered)

pub loop-i-preserved-in-Some-clause_of : goal.loop-i-preserved-in-Some-clause_of
loop-i-preserved-in-Some-clause_of c =
    let l = c.loop-i in
    let s = c.in-Some.ensures.steps in
    let all = subst Bytes s.0.bytes l.invariant.bytes in
    let part = c.in-Some.part.now in
    rw (s.2)
    (record {
      bytes = bytes-behind part _ all;
      counted = passing-next l.invariant.counted s.0 (Counted _ (l.count + 1)) (λ v a m. counted_next m a.made);
      building = built-next c.args.set.set.are_bytes l.invariant.building s.0 (bytes-front part _ all) c.in-Some-clause_of.c
          c.in-Some-clause_of.ensures c.if-c-eq0.false (omega (arith, (ahead c.requires l.invariant.counted s.0).roomy, l.auto.clauses));
    })

pub loop-i-preserved : goal.loop-i-preserved
loop-i-preserved c =
    let l = c.loop-i in
    let s = c.in-Some.ensures.steps in
    let all = subst Bytes s.0.bytes l.invariant.bytes in
    let part = c.in-Some.part.now in
    rw (s.2)
    (record {
      bytes = bytes-behind part _ all;
      counted = passing-next l.invariant.counted s.0 (Counted _ l.count) (λ v a m. counted_past m a.made);
      building = built-past c.args.set.set.are_bytes l.invariant.building s.0 (bytes-front part _ all) c.in_default.ensures;
    })

pub returns : goal.returns
returns c = built-whole c.args.set.set.are_bytes c.loop-i.invariant.building c.loop-i.invariant.counted c.in-None.ensures.steps.0
