-- `show::walk_items` meets its contract. Invariant: as many rules are gone as the number tells, less those that are left to walk, one
-- at least. Measure: the bytes left.
-- Assumes nothing.
use Prim.Native.Nat.{ℕ, ◌+◌, ◌-◌, ◌≤◌}
use native.Mathlib.Omega.{arith}
use mathlib.Core.Path.{◌≡◌, sym, ◌∙◌, ap}
use mathlib.Core.List.{List, [], ◌∷◌, ◌++◌}
use lib.ListN.{length, take, drop, length-take, length-drop}
use borrow.Author.Rules.{rules as known}
use borrow.Author.Rules.{part_to_end}
use Rattle.semantics.specs.Item.{rules}
use Rattle.record.specs.Header.{letter_of}
use Rattle.record.proofs.Laws.Layout.{item-large}
use Rattle.record_walk.specs.Code.{HoldsFile}
use Rattle.record_walk.proofs.Laws.Walk.{letter_at}
use Rattle.record_walk.proofs.Laws.Items.{AlongItems, MoreItem, ItemPass, items-open, item-pass-start}
use Rattle.record_show.specs.Code.{NumberedIn, rules_in}
use Rattle.record_show.proofs.Laws.Extent.{rules-more, rules-in, extent-item, item-next}
use Rattle.record_show.proofs.show.walk_items.Statement.{statement}
use Rattle.record_show.proofs.show.walk_items.Tie as tie

abbrev invariant-loop : tie.invariant-loop-left
invariant-loop s number at₀ left₀ at left = (1 ≤ left) × ItemPass (NumberedIn number) s at (λ gone. length (rules gone) + left ≡ number)

abbrev decreases-loop : tie.decreases-loop-left
decreases-loop s number at₀ left₀ at left = length s - at

-- the file's bytes, and the part that is left
abbrev source : tie.At-loop-left invariant-loop decreases-loop → List ℕ
source c = c.args.s.now

abbrev part : tie.At-loop-left invariant-loop decreases-loop → List ℕ
part c = take (length (source c) - c.loop-left.at) (drop c.loop-left.at (source c))

-- where the loop is, in a file that the slice holds
here : (c : tie.At-loop-left invariant-loop decreases-loop) (w : HoldsFile (NumberedIn c.args.number) (source c))
    → AlongItems (source c) w.items c.loop-left.at (λ gone. length (rules gone) + c.loop-left.left ≡ c.args.number)
here c w = c.loop-left.invariant.1 w

opens : (c : tie.At-loop-left invariant-loop decreases-loop) → c.loop-left.at + 4 ≤ length (source c)
opens c = items-open (here c c.requires).walk

-- the next item's record
next : (c : tie.At-loop-left invariant-loop decreases-loop) (w : HoldsFile (NumberedIn c.args.number) (source c))
    → MoreItem (source c) w.items (here c w).gone c.loop-left.at (part c)
next c w =
    item-next (here c w).walk (omega (arith, (here c w).made, c.loop-left.invariant.0, w.asked.most)) (part c) (part_to_end (source c) c.loop-left.at)

-- it has six bytes or more, and the end record's four stand behind it
large : (c : tie.At-loop-left invariant-loop decreases-loop) → 7 ≤ length (part c)
large c =
    let m = next c c.requires in
    simp (length-take, length-drop) (omega (arith, m.fits, m.size, item-large m.the-item))

-- the rules that were counted there
counted : (c : tie.After-count_rule-rules invariant-loop decreases-loop) → (let at-loop-left = c.before.before.before.before in c.count_rule-rules.result ≡ rules_in (letter_of (part at-loop-left)))
counted c =
    let at-loop-left = c.before.before.before.before in
    c.count_rule-rules.ensures
    ∙ ap rules_in (letter_at (source at-loop-left) c.loop-left.at ∙ ap letter_of (sym (part_to_end (source at-loop-left) c.loop-left.at)))

returns : tie.Need-returns-then-left-rules invariant-loop decreases-loop
returns c w =
    let at-loop-left = c.before.before.before.before.before in
    let l = c.loop-left in
    let there = here at-loop-left w in
    rw c.item_size-size.ensures
    (sym (extent-item _ l.left there.made l.invariant.0 there.walk (next at-loop-left w) (omega (arith, c.if-left-rules.true, counted c.before))))

-- the item's size, seen behind the test
size_of : (c : tie.Else-left-rules invariant-loop decreases-loop) → (let at-loop-left = c.before.before.before.before.before in c.item_size-size.result + c.loop-left.at + 4 ≤ length (source at-loop-left))
size_of c =
    let at-loop-left = c.before.before.before.before.before in
    let m = next at-loop-left c.requires in
    omega (arith, c.item_size-size.ensures, m.fits)

more : (c : tie.Else-left-rules invariant-loop decreases-loop) → 6 ≤ c.item_size-size.result
more c =
    let at-loop-left = c.before.before.before.before.before in
    let m = next at-loop-left c.requires in
    omega (arith, c.item_size-size.ensures, m.size, item-large m.the-item)

loop-again : tie.Need-loop-left-preserved invariant-loop decreases-loop
loop-again c =
    let at-loop-left = c.before.before.before.before.before in
    let l = c.loop-left in (
      omega (arith, c.if-left-rules.false),
      (λ w.
          let there = here at-loop-left w in
          let m = next at-loop-left w in
          record {
            gone = there.gone ++ m.the-item ∷ [];
            walk = m.next _ c.item_size-size.ensures;
            made = omega (arith, there.made, rules-more there.gone m.the-item, rules-in (part at-loop-left) m.the-item m.starts, counted c.before, c.if-left-rules.false);
          }),
    )

loop-holds : tie.Need-loop-left-init invariant-loop decreases-loop
unfolding rules
loop-holds c = (
  omega (arith, c.requires.asked.one),
  item-pass-start c.args.s.now (λ gone. length (rules gone) + c.args.number ≡ c.args.number) (omega arith),
)

pub walk_items_spec : {M : Type 1} → statement M
walk_items_spec =
    tie.close (tie.spec invariant-loop decreases-loop loop-holds
    (λ c. omega (arith, opens c)) (λ c. omega (arith, opens c)) (λ c. search known) (λ c κs. large c.before)
    (λ c. omega (arith, opens c.before.before.before)) (λ c κs. search known) returns
    (λ c. omega (arith, size_of c)) (λ c. search known) (λ c. omega (arith, size_of c, more c)) loop-again)
