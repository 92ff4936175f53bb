-- `heads::mark_options` meets its contract. Invariant: the masks are put to the options before `at`, and each option left has a place.
-- Measure: the options left.
-- Assumes nothing.
use Prim.Native.Nat.{◌+◌, ◌*◌, ◌≤◌, ◌<◌}
use native.Mathlib.Omega.{arith}
use mathlib.Core.Path.{◌≡◌, ◌∙◌, ap}
use lib.Dec.{T, ltb}
use lib.ListN.{length, length-set}
use borrow.Author.Rules.{rules}
use Rattle.semantics.specs.Set.{each_of}
use Rattle.record.specs.Header.{head_count}
use Rattle.record_walk.specs.Code.{option_at, options_at}
use Rattle.expand_tables.specs.Code.{place_of}
use Rattle.expand_heads.proofs.Laws.Heads.{Marking, marking-start, marking-next, marking-end, next-placed, rest-placed}
use Rattle.expand_heads.proofs.heads.mark_options.Statement.{statement}
use Rattle.expand_heads.proofs.heads.mark_options.Tie as tie

abbrev invariant-loop : tie.invariant-loop-left
invariant-loop part up low win₀ lose₀ at₀ left₀ win lose at left =
    (at + 5 * left ≤ length part) × (length win ≡ length win₀) × (length lose ≡ length win₀)
    × T (each_of (λ a. ltb (place_of a) (length win₀)) (options_at part at left))
    × Marking win₀ win up (options_at part 7 (head_count part)) (options_at part at left)
    × Marking lose₀ lose low (options_at part 7 (head_count part)) (options_at part at left)

abbrev decreases-loop : tie.decreases-loop-left
decreases-loop part up low win₀ lose₀ at₀ left₀ win lose at left = left

loop-holds : tie.Need-loop-left-init invariant-loop decreases-loop
loop-holds c =
    let a = c.args in
    (search rules, search rules, search rules, c.requires.1.0, marking-start a.win.now a.up _, marking-start a.lose.now a.low _)

place_is : (c : tie.After-place_of-k invariant-loop decreases-loop) → c.place_of-k.result ≡ place_of (option_at c.args.part.now c.loop-left.at)
place_is c = c.place_of-k.ensures ∙ ap place_of c.option_at.ensures

within : (c : tie.After-place_of-k invariant-loop decreases-loop) → c.place_of-k.result < length c.args.win.now
within c =
    let l = c.loop-left in
    let place = next-placed c.args.part.now (length c.args.win.now) l.at l.left l.invariant.3 c.loop-left-test.true in
    omega (arith, place_is c, place)

-- and of the tables as they are
in-win : (c : tie.After-place_of-k invariant-loop decreases-loop) → c.place_of-k.result < length c.loop-left.win
in-win c = omega (arith, within c, c.loop-left.invariant.1)

in-lose : (c : tie.After-place_of-k invariant-loop decreases-loop) → c.place_of-k.result < length c.loop-left.lose
in-lose c = omega (arith, within c, c.loop-left.invariant.2)

loop-again : tie.Need-loop-left-preserved invariant-loop decreases-loop
loop-again c =
    let l = c.loop-left in
    let taken = c.loop-left-test.true in
    let s = c.args.part.now in (
      search rules,
      simp length-set l.invariant.1,
      simp length-set l.invariant.2,
      rest-placed s (length c.args.win.now) l.at l.left l.invariant.3 taken,
      marking-next s l.at l.left l.invariant.4 _ taken (place_is c.before.before) (in-win c.before.before),
      marking-next s l.at l.left l.invariant.5 _ taken (place_is c.before.before) (in-lose c.before.before),
    )

returns : tie.Need-returns invariant-loop decreases-loop
returns c =
    let l = c.loop-left in
    let s = c.args.part.now in
    (marking-end s l.at l.left l.invariant.4 c.loop-left-test.false, marking-end s l.at l.left l.invariant.5 c.loop-left-test.false)

pub mark_options_spec : {M : Type 1} → statement M
mark_options_spec =
    tie.close (tie.spec invariant-loop decreases-loop (λ c. search rules) (λ c. search rules) loop-holds (λ c κs. search rules) (λ c κs. search rules)
    (λ c. omega (arith, in-win c)) (λ c. in-win c.before) (λ c. omega (arith, in-win c.before)) (λ c. in-win c.before)
    (λ c. omega (arith, in-lose c.before)) (λ c. in-lose c.before.before) (λ c. omega (arith, in-lose c.before.before))
    (λ c. in-lose c.before.before) (λ c. search rules) (λ c. search rules) (λ c. search rules) loop-again (λ c. c.loop-left.invariant.1)
    (λ c. search rules) returns)
