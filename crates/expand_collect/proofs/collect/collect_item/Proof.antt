-- `collect::collect_item` meets its contract: an override, an opposition, or a rule.
-- Assumes nothing.
use native.Mathlib.Omega.{arith}
use mathlib.Core.Path.{ap}
use borrow.Author.Rules.{rules}
use Rattle.expand_tables.specs.Code.{place_of}
use Rattle.expand_collect.specs.Code.{state, OverrideFits, OppositionFits, RuleFits, Room, room_of}
use Rattle.expand_collect.proofs.Laws.Collect.{collects-override, collects-opposition, collects-rule}
use Rattle.expand_collect.proofs.collect.collect_item.Statement.{statement}
use Rattle.expand_collect.proofs.collect.collect_item.Tie as tie

abbrev room : tie.After-shared_slice_known-2-1 → Room
room c =
    let a = c.args in
    room_of a.out.now a.up.now a.low.now a.lowers.now a.ones.now a.others.now

-- an override's record, an opposition's, a rule's
over : (c : tie.Then-letter-eq79) → OverrideFits c.args.part.now (room c.before) c.args.h
over c = c.requires.over c.if-letter-eq79.true

oppo : (c : tie.Then-letter-eq88) → OppositionFits c.args.part.now (room c.before.before) c.args.h
oppo c = c.requires.oppo c.if-letter-eq88.true

other : (c : tie.Else-letter-eq88) → RuleFits c.args.part.now (room c.before.before) c.args.h
other c = c.requires.other c.if-letter-eq79.false c.if-letter-eq88.false

add-override-requires : tie.Need-add_override-requires
add-override-requires c κs =
    let then-letter-eq79 = c.before.before.before.before.before in
    let o = over then-letter-eq79 in
    (omega (arith, c.get_tag.ensures, o.upper), (omega (arith, c.get_tag-then-letter-eq79.ensures, o.lower), (o.room, o.few)))

-- one override more is counted
add-held : tie.Need-overflow_add-held
add-held c =
    let at-up = c.before.before.before.before.before in
    let at-get_tag-then-letter-eq79 = at-up.before.before.before.before.before in
    let then-letter-eq79 = at-get_tag-then-letter-eq79.before.before in
    omega (arith, (over then-letter-eq79).few)

returns : tie.Need-returns-then-letter-eq79
returns c =
    let a = c.args in
    collects-override a.part.now (state a.out.now a.up.now a.low.now a.lowers.now a.ones.now a.others.now a.h) _ _ _
    c.get_tag.result c.get_tag-then-letter-eq79.result c.if-letter-eq79.true c.get_tag.ensures c.get_tag-then-letter-eq79.ensures
    c.add_override.ensures

add-opposition-requires : tie.Need-add_opposition-known-requires
add-opposition-requires c κs =
    let then-letter-eq88 = c.before.before.before.before in
    let o = oppo then-letter-eq88 in
    (omega (arith, ap place_of c.option_at.ensures, o.one), (omega (arith, ap place_of c.option_at-then-letter-eq88.ensures, o.other), (o.room_one, o.room_other)))

returns-2 : tie.Need-returns-then-letter-eq88
returns-2 c =
    let a = c.args in
    collects-opposition a.part.now (state a.out.now a.up.now a.low.now a.lowers.now a.ones.now a.others.now a.h) _ _
    c.option_at.result c.option_at-then-letter-eq88.result c.add_opposition-known.result c.if-letter-eq88.true c.option_at.ensures
    c.option_at-then-letter-eq88.ensures c.add_opposition-known.ensures

copy-requires : tie.Need-copy-requires
copy-requires c κs =
    let r = other c.before.before in
    (omega (arith, c.record_size-size.ensures, r.whole), omega (arith, c.record_size-size.ensures, r.room))

returns-3 : tie.Need-returns
returns-3 c =
    let else-letter-eq88 = c.before.before.before.before.before in
    let r = other else-letter-eq88 in
    let a = c.args in
    collects-rule a.part.now (state a.out.now a.up.now a.low.now a.lowers.now a.ones.now a.others.now a.h) _
    c.record_size-size.result c.if-letter-eq79.false c.if-letter-eq88.false c.record_size-size.ensures
    (omega (arith, c.record_size-size.ensures, r.room)) (omega (arith, c.record_size-size.ensures, r.whole)) c.copy.ensures

overflow_add-end : tie.Need-overflow_add-end
overflow_add-end c =
    let else-letter-eq88 = c.before.before.before.before.before in
    omega (arith, c.record_size-size.ensures, (other else-letter-eq88).room)

overflow_add-count : tie.Need-overflow_add-count
overflow_add-count c =
    let else-letter-eq88 = c.before.before.before.before.before in
    omega (arith, (other else-letter-eq88).few)

pub collect_item_spec : {M : Type 1} → statement M
collect_item_spec =
    tie.close (tie.spec (λ c. search rules) (λ c κs. omega (arith, (over c).long)) (λ c κs. omega (arith, (over c.before).long)) add-override-requires
    add-held (λ c. search rules) (λ c. search rules) (λ c. search rules) returns
    (λ c κs. omega (arith, (oppo c).long)) (λ c κs. omega (arith, (oppo c.before).long)) add-opposition-requires (λ c. search rules) (λ c. search rules)
    returns-2 (λ c κs. omega (arith, (other c).whole)) copy-requires
    overflow_add-end overflow_add-count
    (λ c. search rules) returns-3)
