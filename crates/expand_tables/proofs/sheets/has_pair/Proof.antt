-- `sheets::has_pair` meets its contract. Invariant: the pair is there if it is among those left, from i on. Measure: the pairs left.
-- Assumes nothing.
use Prim.Native.Nat.{◌+◌, ◌≤◌}
use mathlib.Core.Path.{◌≡◌, sym, ◌∙◌}
use lib.ListN.{length}
use borrow.Author.Rules.{rules}
use Rattle.expand_tables.specs.Code.{pair_at, pair_from}
use Rattle.expand_tables.proofs.Laws.Update.{pair_found, pair-next, pair-none}
use Rattle.expand_tables.proofs.sheets.has_pair.Statement.{statement}
use Rattle.expand_tables.proofs.sheets.has_pair.Tie as tie

abbrev invariant-loop : tie.invariant-loop-left
invariant-loop ones others m k l i₀ left₀ i left =
    (i + left ≤ length ones) × (i + left ≤ length others) × (pair_from ones others k l 0 m ≡ pair_from ones others k l i left)

abbrev decreases-loop : tie.decreases-loop-left
decreases-loop ones others m k l i₀ left₀ i left = left

returns : tie.Need-returns-then-k-x invariant-loop decreases-loop
unfolding pair_at
returns c =
    let l = c.loop-left in
    let a = c.args in
    sym (l.invariant.2 ∙ pair_found a.ones.now a.others.now a.k a.l l.i l.left c.loop-left-test.true c.if-k-x.true)

loop-again : tie.Need-loop-left-preserved invariant-loop decreases-loop
unfolding pair_at
loop-again c =
    let l = c.loop-left in
    let a = c.args in (
      search rules,
      search rules,
      l.invariant.2 ∙ pair-next a.ones.now a.others.now a.k a.l l.i l.left c.loop-left-test.true c.if-k-x.false,
    )

returns-2 : tie.Need-returns invariant-loop decreases-loop
returns-2 c =
    let l = c.loop-left in
    let a = c.args in
    sym (l.invariant.2 ∙ pair-none a.ones.now a.others.now a.k a.l l.i l.left c.loop-left-test.false)

pub has_pair_spec : {M : Type 1} → statement M
has_pair_spec =
    tie.close (tie.spec invariant-loop decreases-loop (λ c. search rules) (λ c. search rules) (λ c. search rules) (λ c. search rules) (λ c. search rules) returns
    (λ c. search rules) (λ c. search rules) (λ c. search rules) loop-again returns-2)
