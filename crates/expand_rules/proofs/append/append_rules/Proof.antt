-- `append::append_rules` meets its contract. Invariant: what is to be written at `to` is what is left to write at `next`, what the
-- overrides left, from i on, add. Measure: the overrides left.
-- Assumes nothing.
use Prim.Native.Nat.{◌+◌, ◌≤◌}
use native.Mathlib.Omega.{arith}
use borrow.Author.Rules.{rules}
use Rattle.buffer.proofs.Laws.Writing.{Writing, writing_start}
use Rattle.expand_tables.specs.Code.{all_new}
use Rattle.expand_rules.specs.Code.{defeat_bytes}
use Rattle.expand_rules.proofs.Laws.Defeat.{overrides-fit, overrides-next, overrides-end}
use Rattle.expand_rules.proofs.append.append_rules.Statement.{statement}
use Rattle.expand_rules.proofs.append.append_rules.Tie as tie

abbrev invariant-loop : tie.invariant-loop-left
invariant-loop low lowers n win lose ones others m out₀ to i₀ left₀ next₀ out i left next =
    (i + left ≤ n)
    × Writing out₀ out to next (defeat_bytes (all_new low lowers win lose ones others m 0 n)) (defeat_bytes (all_new low lowers win lose ones others m i left))

abbrev decreases-loop : tie.decreases-loop-left
decreases-loop low lowers n win lose ones others m out₀ to i₀ left₀ next₀ out i left next = left

loop-holds : tie.Need-loop-left-init invariant-loop decreases-loop
loop-holds c =
    (search rules, writing_start c.args.out.now c.args.to _ c.requires.1.1.1.1.1.1.1.1)

cast-at : tie.Need-overflow_cast-at invariant-loop decreases-loop
cast-at c = omega (arith, c.shared_slice_known-in-loop-left-1.given c.loop-left.i)

-- the tag has a place
mul-same : tie.Need-offset_bounds-low-at invariant-loop decreases-loop
mul-same c =
    omega (arith, c.requires.1.1.0 c.loop-left.i (omega arith))

shared-slice-read-same : tie.Need-bounds-low-at invariant-loop decreases-loop
shared-slice-read-same c =
    c.requires.1.1.0 c.loop-left.i (omega arith)

write-pairs-requires : tie.Need-write_pairs-next-requires invariant-loop decreases-loop
write-pairs-requires c κs =
    let l = c.loop-left in
    let a = c.args in
    let p = c.requires in
    let rest = p.1.1.1 in
    let fits = overrides-fit a.low.now a.lowers.now a.win.now a.lose.now a.ones.now a.others.now a.m l.i l.left
    c.all_below.result l.invariant.1 c.all_below.ensures c.loop-left-test.true in
    (omega arith, (rest.0, (rest.1.0, (rest.1.1.0, (rest.1.1.1.0, (rest.1.1.1.1.0, fits))))))

loop-again : tie.Need-loop-left-preserved invariant-loop decreases-loop
loop-again c =
    let l = c.loop-left in
    let a = c.args in (
      omega (arith, l.invariant.0, c.loop-left-test.true),
      overrides-next a.low.now a.lowers.now a.win.now a.lose.now a.ones.now a.others.now a.m l.i l.left
          c.all_below.result l.invariant.1 c.all_below.ensures c.loop-left-test.true c.write_pairs-next.ensures,
    )

same_length : tie.Need-shape_of-out invariant-loop decreases-loop
same_length c = c.loop-left.invariant.1.same

returns : tie.Need-returns invariant-loop decreases-loop
returns c =
    let l = c.loop-left in
    let a = c.args in
    overrides-end a.low.now a.lowers.now a.win.now a.lose.now a.ones.now a.others.now a.m l.i l.left 0 l.invariant.1
    c.loop-left-test.false

pub append_rules_spec : {M : Type 1} → statement M
append_rules_spec =
    tie.close (tie.spec invariant-loop decreases-loop loop-holds (λ c. search rules) (λ c. search rules) cast-at (λ c. search rules) mul-same
    shared-slice-read-same (λ c. search rules) (λ c κs. search rules) write-pairs-requires (λ c. search rules) (λ c. search rules) (λ c. search rules)
    loop-again same_length returns)
