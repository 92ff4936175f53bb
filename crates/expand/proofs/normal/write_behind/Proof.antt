-- `normal::write_behind` meets its contract: the heads of the rules, what is appended, the end record.
-- Assumes nothing.
use Prim.Native.Nat.{ℕ, ◌+◌, ◌-◌, ◌*◌, ◌/◌, ◌≤◌, ◌<◌}
use native.Mathlib.Omega.{arith}
use mathlib.Core.Path.{◌≡◌, refl, sym, ◌∙◌}
use mathlib.Core.List.{List}
use lib.ListN.{length}
use lib.Seq.{length-take-le}
use borrow.Author.Rules.{rules as known}
use Rattle.semantics.specs.Item.{rules, overrides}
use Rattle.expand_tables.specs.Code.{option_places, sheet_places, Headed}
use Rattle.expand_tables.proofs.Laws.Update.{headed-none}
use Rattle.expand_collect.specs.Code.{State, state}
use Rattle.expand.specs.Code.{Appendable}
use Rattle.expand.proofs.Laws.Places.{reach}
use Rattle.expand.proofs.Laws.Normal.{front_fits, front-holds, made-fits, total-fits, end_fits, normal}
use Rattle.expand.proofs.normal.write_behind.Statement.{statement}
use Rattle.expand.proofs.normal.write_behind.Tie as tie

abbrev held : tie.Start → State
held c =
    let a = c.args in
    state a.out.now a.up.now a.low.now a.lowers.now a.ones.now a.others.now a.held

abbrev Asked : tie.Start → Type 0
Asked c = Appendable (held c) c.args.win.now c.args.lose.now

fits : (c : tie.Start) → c.args.held.to + 17 * (2 * (sheet_places * sheet_places)) + 4 ≤ length c.args.out.now
fits c = let w = c.requires in front_fits w.items w.asked (held c) w.fronted

mark-heads-requires : tie.Need-mark_heads-requires
mark-heads-requires c κs =
    let at-shared_slice_known-4 = c.before.before.before.before.before in
    let start = at-shared_slice_known-4.before.before.before.before.before in
    let w = c.requires in (
      front-holds w.items w.asked (held start) w.fronted _ _ _ refl w.up_long w.win_long,
      (w.low_long ∙ sym w.up_long, w.lose_long ∙ sym w.win_long),
    )

abbrev won : tie.After-mark_heads → List ℕ
won c = c.mark_heads.new.win

abbrev lost : tie.After-mark_heads → List ℕ
lost c = c.mark_heads.new.lose

-- the entry, from behind the heads
abbrev entry_of : tie.After-mark_heads → tie.Start
entry_of c =
    let at-shared_slice_known-5 = c.before.before.before.before.before in
    let at-slice_known = at-shared_slice_known-5.before.before.before.before.before in
    at-slice_known.before

headed : (c : tie.After-mark_heads) (w : Asked (entry_of c)) → Headed (rules w.items) (overrides w.items) (won c) (lost c)
headed c w =
    let start = entry_of c in
    let heads = c.mark_heads.ensures (front-holds w.items w.asked (held start) w.fronted _ _ _ refl w.up_long w.win_long) in
    heads.headed (overrides w.items) (held start).lowers w.fronted.tables
    (headed-none (overrides w.items) c.args.win.now c.args.lose.now w.win_empty w.lose_empty)

won-long : (c : tie.After-mark_heads) → length (won c) ≡ option_places
won-long c = c.mark_heads.auto.win ∙ c.requires.win_long

lost-long : (c : tie.After-mark_heads) → length (lost c) ≡ option_places
lost-long c = c.mark_heads.auto.lose ∙ c.requires.lose_long

-- what is appended has room, and its numbers are places
append-rules-requires : tie.Need-append_rules-end-requires
append-rules-requires c κs =
    let at-mark_heads = c.before.before.before.before.before in
    let at-shared_slice_known-5 = at-mark_heads.before.before.before.before.before in
    let at-slice_known = at-shared_slice_known-5.before.before.before.before.before in
    let start = at-slice_known.before in
    let w = c.requires in
    let r = reach w (length (won at-mark_heads)) (won-long at-mark_heads) in
    let room = made-fits w.items w.asked (held start) w.fronted (won at-mark_heads) (lost at-mark_heads) (headed at-mark_heads w) in
    let same = lost-long at-mark_heads ∙ sym (won-long at-mark_heads) in
    (r.few, (r.lowers, (r.tags, (r.ones, (r.others, (r.one-places, (r.other-places, (same, room))))))))

total : (c : tie.After-slice_known-6-1)
    → c.args.held.rules + (c.append_rules-end.result - c.args.held.to) / 17 < 65536
total c =
    let at-lose = c.before.before.before.before.before in
    let at-mark_heads = at-lose.before.before.before in
    let at-shared_slice_known-5 = at-mark_heads.before.before.before.before.before in
    let at-slice_known = at-shared_slice_known-5.before.before.before.before.before in
    let start = at-slice_known.before in
    let w = c.requires in
    total-fits w.items w.asked (held start) w.fronted (won at-mark_heads) (lost at-mark_heads) (headed at-mark_heads w)
    c.append_rules-end.result c.append_rules-end.ensures.next

ends : (c : tie.After-slice_known-6-1) → c.append_rules-end.result + 4 ≤ length c.args.out.now
ends c =
    let at-lose = c.before.before.before.before.before in
    let at-mark_heads = at-lose.before.before.before in
    let at-shared_slice_known-5 = at-mark_heads.before.before.before.before.before in
    let at-slice_known = at-shared_slice_known-5.before.before.before.before.before in
    let start = at-slice_known.before in
    let w = c.requires in
    end_fits w.items w.asked (held start) w.fronted (won at-mark_heads) (lost at-mark_heads) (headed at-mark_heads w)
    c.append_rules-end.result c.append_rules-end.ensures.next

back_long : (c : tie.After-slice_known-6-1) → length c.append_rules-end.new.out ≡ length c.args.out.now
back_long c = c.append_rules-end.auto.out

returns : tie.Need-returns
returns c w =
    let at-out = c.before.before.before.before.before in
    let at-slice_known-4 = at-out.before.before.before.before.before in
    let at-mark_heads = at-slice_known-4.before.before in
    let at-shared_slice_known-5 = at-mark_heads.before.before.before.before.before in
    let at-slice_known = at-shared_slice_known-5.before.before.before.before.before in
    let start = at-slice_known.before in
    normal w.items w.asked (held start) w.fronted (won at-mark_heads) (lost at-mark_heads) (headed at-mark_heads w) _ _
    c.append_rules-end.result c.append_rules-end.ensures c.write_end.ensures

overflow_add-front : tie.Need-overflow_add-front
overflow_add-front c =
    let at-shared_slice_known-2 = c.before.before.before.before.before in
    let start = at-shared_slice_known-2.before.before.before in
    omega (arith, fits start)

slice_bounds-mark_heads-end : tie.Need-slice_bounds-mark_heads-end
slice_bounds-mark_heads-end c =
    let at-shared_slice_known-2 = c.before.before.before.before.before in
    let start = at-shared_slice_known-2.before.before.before in
    omega (arith, fits start)

slice_bounds-mark_heads-end-2 : tie.Need-slice_bounds-mark_heads-end-2
slice_bounds-mark_heads-end-2 c =
    let at-shared_slice_known-2 = c.before.before.before.before.before in
    let start = at-shared_slice_known-2.before.before.before in
    sym (length-take-le _ _ (omega (arith, fits start)))

overflow_add-result : tie.Need-overflow_add-result
overflow_add-result c =
    let at-slice_known-6 = c.before.before.before.before in
    omega (arith, ends at-slice_known-6)

shape_of-out : tie.Need-shape_of-out
shape_of-out c =
    let at-slice_known-6 = c.before.before.before.before in
    c.write_end.auto.out ∙ back_long at-slice_known-6

pub write_behind_spec : {M : Type 1} → statement M
write_behind_spec =
    tie.close (tie.spec
    overflow_add-front slice_bounds-mark_heads-end
    slice_bounds-mark_heads-end-2
    mark-heads-requires append-rules-requires (λ c. search known) (λ c. omega (arith, total c)) (λ c. omega (arith, total c))
    (λ c κs. omega (arith, ends c.before, back_long c.before))
    overflow_add-result
    shape_of-out (λ c. search known) (λ c. search known) returns)
