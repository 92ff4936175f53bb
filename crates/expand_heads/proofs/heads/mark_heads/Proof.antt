-- `heads::mark_heads` meets its contract. Invariant: the heads of the rules that are gone are in the tables, which keep their length.
-- Measure: the bytes left.
-- Assumes nothing.
use Prim.Native.Nat.{ℕ, ◌+◌, ◌-◌, ◌≤◌}
use native.Mathlib.Omega.{arith}
use mathlib.Core.Path.{◌≡◌, refl, sym, subst, ◌∙◌}
use mathlib.Core.List.{List}
use lib.ListN.{length, take, drop}
use borrow.Author.Rules.{rules}
use borrow.Author.Rules.{part_to_end}
use Rattle.record_walk.specs.Code.{Holds}
use Rattle.record_walk.proofs.Laws.Walk.{Along, More, Pass, walk-open, walk_more, pass-start, pass-next, along-end, next-keeps}
use Rattle.expand_heads.specs.Code.{placed, Placed, Places, HeadsAdded}
use Rattle.expand_heads.proofs.Laws.Heads.{places_of, heads-none, heads-more}
use Rattle.expand_heads.proofs.heads.mark_heads.Statement.{statement}
use Rattle.expand_heads.proofs.heads.mark_heads.Tie as tie

abbrev invariant-loop : tie.invariant-loop-at
invariant-loop s up low win₀ lose₀ at₀ win lose at =
    (length win ≡ length win₀) × (length lose ≡ length win₀)
    × Pass (Placed (length up) (length win₀)) s at (λ gone. HeadsAdded gone up low win₀ lose₀ win lose)

abbrev decreases-loop : tie.decreases-loop-at
decreases-loop s up low win₀ lose₀ at₀ win lose at = length s - at

abbrev source : tie.At-loop-at invariant-loop decreases-loop → List ℕ
source c = c.args.s.now

abbrev part : tie.At-loop-at invariant-loop decreases-loop → List ℕ
part c = take (length (source c) - c.loop-at.at) (drop c.loop-at.at (source c))

abbrev asked : (c : tie.At-loop-at invariant-loop decreases-loop) → Holds (Placed (length c.args.up.now) (length c.args.win.now)) (source c)
asked c = c.requires.0

-- where the loop is
here : (c : tie.At-loop-at invariant-loop decreases-loop)
    → Along (source c) (asked c).program c.loop-at.at
    (λ gone. HeadsAdded gone c.args.up.now c.args.low.now c.args.win.now c.args.lose.now
    c.loop-at.win c.loop-at.lose)
here c = c.loop-at.invariant.2 (asked c)

opens : (c : tie.At-loop-at invariant-loop decreases-loop) → c.loop-at.at + 4 ≤ length (source c)
opens c = walk-open (here c).walk

next : (c : tie.After-part-1 invariant-loop decreases-loop)
    → More (source c.before.before.before) (asked c.before.before.before).program (here c.before.before.before).gone c.loop-at.at (part c.before.before.before)
next c = walk_more (here c.before.before.before).walk c.loop-at-test.true (part c.before.before.before) (part_to_end (source c.before.before.before) c.loop-at.at)

mark-rule-requires : tie.Need-mark_rule-requires invariant-loop decreases-loop
mark-rule-requires c κs =
    let at-loop-at = c.before.before.before.before.before in
    let tags = length c.args.up.now in
    let options = length c.args.win.now in
    let m = next c.before.before in
    let l = c.loop-at in
    let placing = places_of (part at-loop-at) tags options m.the-rule (next-keeps (placed tags options) (asked at-loop-at).asked m) m.starts in (
      m.whole,
      (
        (λ e. subst (λ (n : ℕ). Places (part at-loop-at) tags n) (sym l.invariant.0) (placing e)),
        (c.requires.1.0, omega (arith, l.invariant.0, l.invariant.1)),
      ),
    )

loop-again : tie.Need-loop-at-preserved invariant-loop decreases-loop
loop-again c =
    let at-mark_rule = c.before.before.before.before.before in
    let at-shared_slice_known-in-loop-at = at-mark_rule.before.before.before.before.before in
    let at-loop-at = at-shared_slice_known-in-loop-at.before in
    let marked = c.mark_rule.ensures in
    let l = c.loop-at in
    let a = c.args in (
      marked.win_same ∙ l.invariant.0,
      marked.lose_same ∙ l.invariant.1,
      pass-next l.invariant.2 c.loop-at-test.true (part at-loop-at) (part_to_end (source at-loop-at) l.at) _ c.record_size-at.ensures
          (λ gone. HeadsAdded gone a.up.now a.low.now a.win.now a.lose.now _ _)
          (λ w b m. heads-more m.the-rule m.starts b.made marked),
    )

returns : tie.Need-returns invariant-loop decreases-loop
returns c w = along-end (c.loop-at.invariant.2 w) c.loop-at-test.false

record_size-at-requires : tie.Need-record_size-at-requires invariant-loop decreases-loop
record_size-at-requires c κs =
    let at-mark_rule-arg-in-loop-at = c.before.before.before.before.before in
    let at-part = at-mark_rule-arg-in-loop-at.before.before in
    omega (arith, (next at-part).whole)

overflow_add-at : tie.Need-overflow_add-at invariant-loop decreases-loop
overflow_add-at c =
    let at-mark_rule = c.before.before.before.before.before in
    let at-part = at-mark_rule.before.before.before in
    omega (arith, (next at-part).fits, c.record_size-at.ensures)

loop-at-smaller : tie.Need-loop-at-smaller invariant-loop decreases-loop
loop-at-smaller c =
    let at-mark_rule = c.before.before.before.before.before in
    let at-part = at-mark_rule.before.before.before in
    omega (arith, (next at-part).fits, c.record_size-at.ensures)

pub mark_heads_spec : {M : Type 1} → statement M
mark_heads_spec =
    tie.close (tie.spec invariant-loop decreases-loop
    (λ c. let a = c.args in
    (refl, c.requires.1.1, pass-start a.s.now _ (heads-none a.up.now a.low.now a.win.now a.lose.now)))
    (λ c. omega (arith, opens c.before)) (λ c. omega (arith, opens c.before.before)) (λ c. omega (arith, opens c.before.before))
    (λ c. search rules) mark-rule-requires record_size-at-requires
    overflow_add-at
    loop-at-smaller loop-again
    (λ c. c.loop-at.invariant.0) (λ c. search rules) returns)
