-- `normal::write_front` meets its contract: what is collected, and an end record behind it.
-- Assumes nothing.
use Prim.Native.Nat.{◌+◌, ◌≤◌}
use native.Mathlib.Omega.{arith}
use mathlib.Core.Path.{refl}
use lib.ListN.{length}
use borrow.Author.Rules.{rules}
use Rattle.record_walk.specs.Code.{HoldsFile}
use Rattle.expand_tables.proofs.Laws.Update.{tables-none}
use Rattle.expand_collect.specs.Code.{State, state, room_of, Collecting, Collected}
use Rattle.expand.specs.Code.{Expandable}
use Rattle.expand.proofs.Laws.Places.{collecting}
use Rattle.expand.proofs.Laws.Normal.{rules-fit, end-room, fronted}
use Rattle.expand.proofs.normal.write_front.Statement.{statement}
use Rattle.expand.proofs.normal.write_front.Tie as tie

abbrev Asked : tie.Start → Type 0
Asked c = HoldsFile (Expandable (length c.args.out.now)) c.args.s.now

-- its items can be collected
asked-collecting : (c : tie.Start) → Asked c
    → HoldsFile
    (Collecting (room_of c.args.out.now c.args.up.now c.args.low.now c.args.lowers.now c.args.ones.now c.args.others.now))
    c.args.s.now
asked-collecting c w =
    let a = c.requires.1 in
    record {
      items = w.items;
      bytes = w.bytes;
      asked = collecting _ w.items w.asked _ refl a.up_long a.low_long a.lowers_long a.ones_long a.others_long;
    }

collect-requires : tie.Need-collect-held-requires
collect-requires c κs =
    let at-collect-arg = c.before.before.before.before.before in
    let at-slice_known-2 = at-collect-arg.before.before.before.before.before in
    let start = at-slice_known-2.before.before.before in
    let a = c.args in
    (asked-collecting start c.requires.0, tables-none a.up.now a.low.now a.lowers.now c.requires.1.up_empty c.requires.1.low_empty)

abbrev held : tie.After-collect-held → State
held c =
    let l = c.collect-held.new in
    state l.out l.up l.low l.lowers l.ones l.others c.collect-held.result

-- the entry, from behind the items
abbrev entry_of : tie.After-collect-held → tie.Start
entry_of c =
    let at-five = c.before.before.before.before.before in
    let at-ten = at-five.before.before.before.before.before in
    at-ten.before.before.before.before

collected : (c : tie.After-collect-held) (w : Asked (entry_of c)) → Collected c.args.out.now w.items (held c)
unfolding asked-collecting
collected c w = c.collect-held.ensures (asked-collecting (entry_of c) w)

-- the items that the call asks about
abbrev asked : (c : tie.After-collect-held) → Asked (entry_of c)
asked c = c.requires.0

room : (c : tie.After-collect-held) → (held c).held.to + 4 ≤ length (held c).out
room c = end-room (asked c).items (asked c).asked (held c) (collected c (asked c))

returns : tie.Need-returns
returns c w =
    let at-slice_known-12 = c.before.before.before.before.before in
    let at-lowers = at-slice_known-12.before.before.before.before.before in
    let at-slice_known-7 = at-lowers.before.before.before.before.before in
    let at-collect-held = at-slice_known-7.before.before in
    fronted w.items w.asked (held at-collect-held) (collected at-collect-held w) _ c.write_end.ensures

overflow_cast-held : tie.Need-overflow_cast-held
overflow_cast-held c =
    let at-slice_known-10 = c.before.before.before.before.before in
    let at-up = at-slice_known-10.before.before.before.before.before in
    let at-collect-held = at-up.before.before.before in
    omega (arith, rules-fit (asked at-collect-held).items (asked at-collect-held).asked (held at-collect-held) (collected at-collect-held (asked at-collect-held)))

write_end-requires : tie.Need-write_end-requires
write_end-requires c κs =
    let at-ones = c.before.before.before.before.before in
    let at-slice_known-8 = at-ones.before.before.before.before.before in
    let at-collect-held = at-slice_known-8.before.before.before.before in
    omega (arith, room at-collect-held)

pub write_front_spec : {M : Type 1} → statement M
write_front_spec =
    tie.close (tie.spec collect-requires
    overflow_cast-held
    write_end-requires (λ c. search rules) (λ c. search rules) (λ c. search rules) (λ c. search rules)
    (λ c. search rules) (λ c. search rules) returns)
