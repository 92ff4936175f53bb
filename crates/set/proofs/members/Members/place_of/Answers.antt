-- `Members::place_of`: a set without literals has no key, and none has one that five bytes don't spell.
use Rattle.std.proofs.Common.{◌∙◌, ◌+◌, ◌/◌, arith}
use borrow.Author.Tests.{ne_eqb}
use Rattle.set.proofs.Laws.Search.{member-key-lt, has-key-none, part-one}
use Rattle.set.proofs.members.Members.place_of.Goals as goal
use Rattle.set.proofs.members.Members.place_of.Goals.{then-self-eq0-via-then-self-eq0, then-self-eq0-via-else-self-eq0+then-wanted-ge-ROOM}

pub returns-then-self-eq0 : goal.returns-then-self-eq0
returns-then-self-eq0 c =
    let s = c.args.self in
    elim c.then-self-eq0.branch [
      | then-self-eq0-via-then-self-eq0 w ↦ has-key-none s.bytes.now c.args.wanted s.count (λ j l e. omega arith)
      | then-self-eq0-via-else-self-eq0+then-wanted-ge-ROOM w ↦
          has-key-none s.bytes.now c.args.wanted s.count
          (λ j l e. omega (arith, member-key-lt s.bytes.now s.are_bytes j, w.if-wanted-ge-ROOM.true))
    ]

pub weigh-requires-clause-key_lt_key_room : goal.weigh-requires-clause-key_lt_key_room
weigh-requires-clause-key_lt_key_room c =
    let s = c.args.self in
    omega (arith, member-key-lt s.bytes.now s.are_bytes (c.loop-size.base + c.loop-size.size / 2), c.member_key.ensures)

pub returns-else-member_key-wanted : goal.returns-else-member_key-wanted
returns-else-member_key-wanted c =
    let s = c.args.self in
    part-one s.bytes.now c.args.wanted s.count c.loop-size.base c.loop-size.size c.loop-size.invariant c.loop-size-test.false
    ∙ ne_eqb _ _ (λ e. c.if-member_key-wanted.false (c.member_key-2.ensures ∙ e))
