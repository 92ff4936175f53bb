-- The proof of `find::settle` and `find::try_open`, which call each other. `settle` tries what propagation leaves open, at most
-- as many literals, and `try_open` settles with one literal fewer open.
use Rattle.std.proofs.Common.{arith}
use Rattle.check_force.specs.Code.{Model}
use Rattle.check_force.proofs.Laws.Narrow.{fewer-open}
use Rattle.check_search.proofs.Laws.Open.{tries-inside, tries-less}
use Rattle.check_search.proofs.Laws.First.{any_left, absent-wider, any-present}
use Rattle.check_search.proofs.find.+settle_try_open.Goals as goal

pub settle-try_open-requires : goal.settle-try_open-requires
settle-try_open-requires t c =
    let a = c.args in
    let v = c.in_ok-left.ensures in
    let fewer = fewer-open {P = Model a.whole a.clauses.now} v.kept in
    let below = c.decreases in (
      omega (arith, fewer, below),
      (v.kept.inside c.requires, (v.leaf, v.settled)),
    )

pub settle-returns : goal.settle-returns
settle-returns t c = any_left c.in_ok-left.ensures.kept c.try_open.result c.try_open.ensures

pub try_open-settle-requires : goal.try_open-settle-requires
try_open-settle-requires t c =
    let a = c.args in
    let less = tries-less a.now.must a.now.may _ c.requires.inside c.pick-open.ensures in
    let inside = tries-inside a.now.must a.now.may _ c.requires.inside c.pick-open.ensures in
    (omega (arith, less, c.decreases), inside.0)

pub try_open-returns-in-Some : goal.try_open-returns-in-Some
try_open-returns-in-Some t c =
    let a = c.args in
    absent-wider {P = Model a.whole a.clauses.now} c.requires.inside c.pick-open.ensures _ c.in-Some.ensures

pub try_open-settle-requires-2 : goal.try_open-settle-requires-2
try_open-settle-requires-2 t c =
    let a = c.args in
    let less = tries-less a.now.must a.now.may _ c.requires.inside c.pick-open.ensures in
    let inside = tries-inside a.now.must a.now.may _ c.requires.inside c.pick-open.ensures in
    (omega (arith, less, c.decreases), inside.1)

pub try_open-returns : goal.try_open-returns
try_open-returns t c =
    let a = c.args in
    any-present (Model a.whole a.clauses.now) a.now.must a.now.may _ c.requires.inside c.pick-open.ensures c.in_default.ensures c.settle-2.result
    c.settle-2.ensures
