-- `collect::collect` meets its contract. Invariant: the items that are gone are collected, and the slices keep their lengths. Measure:
-- the bytes left.
-- Assumes nothing.
use Prim.Native.Nat.{ℕ, ◌+◌, ◌-◌, ◌≤◌}
use native.Mathlib.Omega.{arith}
use mathlib.Core.Path.{◌≡◌, refl, sym, subst, ap, ◌∙◌}
use mathlib.Core.List.{List}
use lib.ListN.{length, take, drop, length-drop}
use borrow.Author.Rules.{rules}
use borrow.Author.Rules.{part_to_end}
use Rattle.record_walk.specs.Code.{HoldsFile}
use Rattle.record_walk.proofs.Laws.Items.{AlongItems, MoreItem, ItemPass, items-open, items_more, item-pass-start, item-pass-next, along-items-end}
use Rattle.expand_collect.specs.Code.{State, state, Room, room_of, state_room, Collectable, Collecting, Collected}
use Rattle.expand_collect.proofs.Laws.Room.{collectable, collected-none, size-least}
use Rattle.expand_collect.proofs.collect.collect.Statement.{statement}
use Rattle.expand_collect.proofs.collect.collect.Tie as tie

abbrev invariant-loop : tie.invariant-loop-at
invariant-loop s out₀ up₀ low₀ lowers₀ ones₀ others₀ at₀ h₀ out up low lowers ones others at h =
    (room_of out up low lowers ones others ≡ room_of out₀ up₀ low₀ lowers₀ ones₀ others₀)
    × ItemPass (Collecting (room_of out₀ up₀ low₀ lowers₀ ones₀ others₀)) s at (λ gone. Collected out₀ gone (state out up low lowers ones others h))

abbrev decreases-loop : tie.decreases-loop-at
decreases-loop s out₀ up₀ low₀ lowers₀ ones₀ others₀ at₀ h₀ out up low lowers ones others at h = length s - at

abbrev source : tie.At-loop-at invariant-loop decreases-loop → List ℕ
source c = c.args.s.now

abbrev part : tie.At-loop-at invariant-loop decreases-loop → List ℕ
part c = take (length (source c) - c.loop-at.at) (drop c.loop-at.at (source c))

abbrev room : tie.At-loop-at invariant-loop decreases-loop → Room
room c =
    let a = c.args in
    room_of a.out.now a.up.now a.low.now a.lowers.now a.ones.now a.others.now

abbrev held : tie.At-loop-at invariant-loop decreases-loop → State
held c = let l = c.loop-at in state l.out l.up l.low l.lowers l.ones l.others l.h

abbrev asked : (c : tie.At-loop-at invariant-loop decreases-loop) → HoldsFile (Collecting (room c)) (source c)
asked c = c.requires.0

-- where the loop is
here : (c : tie.At-loop-at invariant-loop decreases-loop)
    → AlongItems (source c) (asked c).items c.loop-at.at (λ gone. Collected c.args.out.now gone (held c))
here c = c.loop-at.invariant.1 (asked c)

opens : (c : tie.At-loop-at invariant-loop decreases-loop) → c.loop-at.at + 4 ≤ length (source c)
opens c = items-open (here c).walk

next : (c : tie.After-part-1 invariant-loop decreases-loop)
    → MoreItem (source c.before.before.before) (asked c.before.before.before).items (here c.before.before.before).gone c.loop-at.at (part c.before.before.before)
next c = items_more (here c.before.before.before).walk c.loop-at-test.true (part c.before.before.before) (part_to_end (source c.before.before.before) c.loop-at.at)

-- it is long enough to be measured
long : (c : tie.After-part-1 invariant-loop decreases-loop) → 7 ≤ length (part c.before.before.before)
long c =
    let m = next c in
    let s = source c.before.before.before in
    let at = c.loop-at.at in
    omega (arith, m.fits, size-least (part c.before.before.before), ap length (part_to_end s at), length-drop at s)

collect-item-requires : tie.Need-collect_item-h-requires invariant-loop decreases-loop
collect-item-requires c κs =
    let at-collect_item-arg = c.before.before.before.before.before in
    let at-part = at-collect_item-arg.before in
    let at-loop-at = at-part.before.before.before in
    let m = next at-part in
    subst (λ (r : Room). Collectable (part at-loop-at) r c.loop-at.h) (sym c.loop-at.invariant.0)
    (collectable (room at-loop-at) (asked at-loop-at).items (here at-loop-at).gone m.behind (held at-loop-at) (part at-loop-at) (asked at-loop-at).asked
    (here at-loop-at).made m.whole m.the-item m.split m.starts (omega (arith, long at-part)))

loop-again : tie.Need-loop-at-preserved invariant-loop decreases-loop
loop-again c =
    let at-slice_known-in-loop-at-4 = c.before.before.before.before.before in
    let at-up = at-slice_known-in-loop-at-4.before.before.before.before.before in
    let at-collect_item-arg-in-loop-at-4 = at-up.before.before.before.before.before in
    let at-part = at-collect_item-arg-in-loop-at-4.before.before.before.before.before in
    let at-loop-at = at-part.before.before.before in
    let more = c.collect_item-h.ensures in
    let l = c.loop-at in (
      more.same ∙ l.invariant.0,
      item-pass-next l.invariant.1 c.loop-at-test.true (part at-loop-at) (part_to_end (source at-loop-at) l.at) _ c.item_size-at.ensures
          (λ gone. Collected c.args.out.now gone _)
          (λ w b m. more.more c.args.out.now b.gone m.the-item m.starts.rest m.starts.bytes b.made),
    )

returns : tie.Need-returns invariant-loop decreases-loop
returns c w = along-items-end (c.loop-at.invariant.1 w) c.loop-at-test.false

-- the lengths stay
kept : (f : Room → ℕ) (c : tie.After-loop-at invariant-loop decreases-loop) → f (state_room (held c.before.before)) ≡ f (room c.before.before)
kept f c = ap f c.loop-at.invariant.0

loop-holds : tie.Need-loop-at-init invariant-loop decreases-loop
loop-holds c =
    let a = c.args in (
      refl,
      item-pass-start a.s.now _
          (collected-none a.out.now a.up.now a.low.now a.lowers.now a.ones.now a.others.now c.requires.1),
    )

item_size-at-requires : tie.Need-item_size-at-requires invariant-loop decreases-loop
item_size-at-requires c κs =
    let at-lowers = c.before.before.before.before.before in
    let at-slice_known-in-loop-at = at-lowers.before.before.before.before.before in
    let at-collect_item-arg-in-loop-at-3 = at-slice_known-in-loop-at.before.before.before.before.before in
    let at-part = at-collect_item-arg-in-loop-at-3.before.before.before.before in
    omega (arith, long at-part)

overflow_add-at : tie.Need-overflow_add-at invariant-loop decreases-loop
overflow_add-at c =
    let at-slice_known-in-loop-at-4 = c.before.before.before.before.before in
    let at-up = at-slice_known-in-loop-at-4.before.before.before.before.before in
    let at-collect_item-arg-in-loop-at-4 = at-up.before.before.before.before.before in
    let at-part = at-collect_item-arg-in-loop-at-4.before.before.before.before.before in
    omega (arith, (next at-part).fits, c.item_size-at.ensures)

loop-at-smaller : tie.Need-loop-at-smaller invariant-loop decreases-loop
loop-at-smaller c =
    let at-slice_known-in-loop-at-4 = c.before.before.before.before.before in
    let at-up = at-slice_known-in-loop-at-4.before.before.before.before.before in
    let at-collect_item-arg-in-loop-at-4 = at-up.before.before.before.before.before in
    let at-part = at-collect_item-arg-in-loop-at-4.before.before.before.before.before in
    let at-loop-at = at-part.before.before.before in
    omega (arith, (next at-part).fits, c.item_size-at.ensures, size-least (part at-loop-at))

pub collect_spec : {M : Type 1} → statement M
collect_spec =
    tie.close (tie.spec invariant-loop decreases-loop loop-holds
    (λ c. omega (arith, opens c.before)) (λ c. omega (arith, opens c.before.before)) (λ c. omega (arith, opens c.before.before))
    (λ c. search rules) collect-item-requires item_size-at-requires
    overflow_add-at
    loop-at-smaller
    loop-again (kept (λ r. r.bytes)) (kept (λ r. r.uppers)) (kept (λ r. r.losers)) (kept (λ r. r.overrides)) (kept (λ r. r.ones)) (kept (λ r. r.others))
    returns)
