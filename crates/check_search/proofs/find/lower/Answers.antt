-- `find::lower` meets its contract.
use Rattle.check_search.proofs.Laws.Open.{tries-inside, tries-less}
use Rattle.check_search.proofs.Laws.Lower.{lacks, lowered-absent, lowered-present}
use Rattle.check_search.proofs.find.lower.Goals as goal

pub loop-now-smaller-then-model-open-eq0 : goal.loop-now-smaller-then-model-open-eq0
loop-now-smaller-then-model-open-eq0 c =
    let l = c.loop-now in
    (tries-less l.now.must l.now.may _ l.invariant.inside c.highest-open.ensures.position).0

pub loop-now-preserved-then-model-open-eq0 : goal.loop-now-preserved-then-model-open-eq0
loop-now-preserved-then-model-open-eq0 c =
    let l = c.loop-now in
    lowered-absent c.highest-open.ensures l.invariant (lacks c.highest-open.ensures l.invariant c.if-model-open-eq0.true)

pub settle-requires : goal.settle-requires
settle-requires c =
    let l = c.loop-now in
    (tries-inside l.now.must l.now.may _ l.invariant.inside c.highest-open.ensures.position).0

pub loop-now-smaller-in-Some : goal.loop-now-smaller-in-Some
loop-now-smaller-in-Some c =
    let l = c.loop-now in
    (tries-less l.now.must l.now.may _ l.invariant.inside c.highest-open.ensures.position).0

pub loop-now-preserved-in-Some : goal.loop-now-preserved-in-Some
loop-now-preserved-in-Some c =
    let l = c.loop-now in
    lowered-absent c.highest-open.ensures l.invariant c.in-Some.ensures

pub loop-now-smaller : goal.loop-now-smaller
loop-now-smaller c =
    let l = c.loop-now in
    (tries-less l.now.must l.now.may _ l.invariant.inside c.highest-open.ensures.position).1

pub loop-now-preserved : goal.loop-now-preserved
loop-now-preserved c =
    let l = c.loop-now in
    lowered-present c.highest-open.ensures l.invariant c.in_default.ensures
