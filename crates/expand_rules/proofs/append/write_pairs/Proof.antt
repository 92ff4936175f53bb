-- `append::write_pairs` meets its contract. Invariant: what is to be written at `to` is what is left to write at `next`, the records of
-- the pairs left, from j on. Measure: the pairs left.
-- Assumes nothing.
use Prim.Native.Nat.{◌+◌, ◌≤◌}
use native.Mathlib.Omega.{arith}
use borrow.Author.Rules.{rules}
use Rattle.buffer.proofs.Laws.Writing.{Writing, writing_start}
use Rattle.expand_tables.specs.Code.{pairs_new}
use Rattle.expand_rules.specs.Code.{defeat_bytes}
use Rattle.expand_rules.proofs.Laws.Defeat.{pairs-fit, pairs_next, pairs_end}
use Rattle.expand_rules.proofs.append.write_pairs.Statement.{statement}
use Rattle.expand_rules.proofs.append.write_pairs.Tie as tie

abbrev invariant-loop : tie.invariant-loop-left
invariant-loop win lose ones others m same i t out₀ to j₀ left₀ next₀ out j left next =
    (j + left ≤ m)
    × Writing out₀ out to next (defeat_bytes (pairs_new win lose ones others same i t 0 m)) (defeat_bytes (pairs_new win lose ones others same i t j left))

abbrev decreases-loop : tie.decreases-loop-left
decreases-loop win lose ones others m same i t out₀ to j₀ left₀ next₀ out j left next = left

loop-holds : tie.Need-loop-left-init invariant-loop decreases-loop
loop-holds c =
    (search rules, writing_start c.args.out.now c.args.to _ c.requires.1.1.1.1.1.1)

write-pair-requires : tie.Need-write_pair-next-requires invariant-loop decreases-loop
write-pair-requires c κs =
    let l = c.loop-left in
    let a = c.args in
    let p = c.requires in
    let one = p.1.1.1.0 l.j (omega arith) in
    let other = p.1.1.1.1.0 l.j (omega arith) in
    let same = p.1.1.1.1.1.0 in
    let fits = pairs-fit a.win.now a.lose.now a.ones.now a.others.now a.same a.i a.t l.j l.left l.invariant.1 in
    (p.0, (one, (other, (omega (arith, one, same), (omega (arith, other, same), fits c.loop-left-test.true)))))

loop-again : tie.Need-loop-left-preserved invariant-loop decreases-loop
loop-again c =
    let l = c.loop-left in
    let a = c.args in (
      omega (arith, l.invariant.0, c.loop-left-test.true),
      pairs_next a.win.now a.lose.now a.ones.now a.others.now a.same a.i a.t l.j l.left l.invariant.1
          c.loop-left-test.true c.write_pair-next.ensures,
    )

same_length : tie.Need-shape_of-out invariant-loop decreases-loop
same_length c = c.loop-left.invariant.1.same

returns : tie.Need-returns invariant-loop decreases-loop
returns c =
    let l = c.loop-left in
    let a = c.args in
    pairs_end a.win.now a.lose.now a.ones.now a.others.now a.same a.i a.t l.j l.left l.invariant.1 c.loop-left-test.false

pub write_pairs_spec : {M : Type 1} → statement M
write_pairs_spec =
    tie.close (tie.spec invariant-loop decreases-loop loop-holds (λ c. search rules) (λ c. search rules) (λ c. search rules) (λ c. search rules)
    write-pair-requires (λ c. search rules) (λ c. search rules) (λ c. search rules) loop-again same_length returns)
