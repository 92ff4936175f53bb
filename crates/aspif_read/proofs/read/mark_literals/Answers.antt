-- `read::mark_literals` meets its contract: each literal that is right is marked, and leaves the run behind it.
-- Assumes nothing.
use Rattle.std.proofs.Common.{arith, ◌+◌, ◌-◌, ◌*◌, ◌≡◌, sym, ap, ◌∙◌}
use borrow.Author.Rules.{part_to_end}
use Rattle.literal.specs.Literal.{decoded}
use Rattle.literal.specs.Code.{is_valid}
use Rattle.aspif_read.proofs.Laws.Literals.{valid-placed, marking-next, marking-wrong, marking-right, marking-gained}
use Rattle.aspif_read.proofs.read.mark_literals.Goals as goal

pub returns-then-not-is_literal-clause-value : goal.returns-then-not-is_literal-clause-value
returns-then-not-is_literal-clause-value c =
    let a = c.args in
    let place = 7 + 5 * c.loop-k.k in
    let wrong = ap (λ bs. is_valid (decoded a.lim bs)) (sym (part_to_end a.t.now place)) ∙ sym c.is_literal.ensures ∙ c.if-not-is_literal.true in
    sym (marking-wrong c.loop-k.invariant (omega (arith, c.loop-k-test.true)) wrong)

pub mark_place-requires-clause-i_bound : goal.mark_place-requires-clause-i_bound
mark_place-requires-clause-i_bound c =
    let a = c.args in
    let place = 7 + 5 * c.loop-k.k in
    let right = ap (λ bs. is_valid (decoded a.lim bs)) (sym (part_to_end a.t.now place)) ∙ sym c.is_literal.ensures ∙ c.if-not-is_literal.false in
    omega (arith, c.place_at-i.ensures, valid-placed a.lim c.requires.placeable _ right, c.loop-k.invariant.same, c.requires.bits_len)

pub loop-k-preserved : goal.loop-k-preserved
loop-k-preserved c =
    let a = c.args in
    let place = 7 + 5 * c.loop-k.k in
    let right = ap (λ bs. is_valid (decoded a.lim bs)) (sym (part_to_end a.t.now place)) ∙ sym c.is_literal.ensures ∙ c.if-not-is_literal.false in
    let made = c.mark_place.ensures in
    let more = marking-next c.loop-k.invariant (omega (arith, c.loop-k-test.true)) right _ c.place_at-i.ensures _ _ made.gained made.tallied_2 in
    let along : place + 5 ≡ 7 + 5 * (c.loop-k.k + 1) = omega arith in
    let fewer : a.count - c.loop-k.k - 1 ≡ a.count - (c.loop-k.k + 1) = omega arith in
    rw (sym along, sym fewer) more

pub returns-clause-value : goal.returns-clause-value
returns-clause-value c = sym (marking-right c.loop-k.invariant (omega (arith, c.loop-k-test.false)))

pub returns-clause-gained : goal.returns-clause-gained
returns-clause-gained c right = marking-gained c.loop-k.invariant (omega (arith, c.loop-k-test.false))
