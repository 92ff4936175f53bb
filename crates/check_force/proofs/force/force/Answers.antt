-- `force::force` meets its contract: a law for each case. Behind the first test the clause is not met, and one literal at
-- most is open.
use Rattle.check_force.proofs.Laws.Force.{met-or-more, one-open, nothing-open, last-head, last-body, same-open}
use Rattle.check_force.proofs.force.force.Goals as goal

pub returns-then-met-without_lowest-ne0 : goal.returns-then-met-without_lowest-ne0
returns-then-met-without_lowest-ne0 c =
    let a = c.args in
    met-or-more a.c.body a.c.head a.now.must a.now.may c.without_lowest.ensures c.if-met-without_lowest-ne0.true

pub returns-then-last-eq0 : goal.returns-then-last-eq0
returns-then-last-eq0 c =
    let a = c.args in
    nothing-open a.c.body a.c.head a.now.must a.now.may c.if-last-eq0.true

pub returns-then-needed-eq0 : goal.returns-then-needed-eq0
returns-then-needed-eq0 c =
    let a = c.args in
    let one = one-open a.c.body a.c.head a.now.must a.now.may c.without_lowest.ensures c.if-met-without_lowest-ne0.false in
    last-head a.c.body a.c.head a.now.must a.now.may c.if-last-eq0.false one.0 one.1 c.if-needed-eq0.true

pub returns-then-left-eq0 : goal.returns-then-left-eq0
returns-then-left-eq0 c =
    let a = c.args in
    let one = one-open a.c.body a.c.head a.now.must a.now.may c.without_lowest.ensures c.if-met-without_lowest-ne0.false in
    last-body a.c.body a.c.head a.now.must a.now.may c.if-last-eq0.false one.0 one.1 c.if-left-eq0.true

pub returns : goal.returns
returns c =
    let a = c.args in
    same-open a.c.body a.c.head a.now.must a.now.may c.if-last-eq0.false c.if-needed-eq0.false c.if-left-eq0.false
