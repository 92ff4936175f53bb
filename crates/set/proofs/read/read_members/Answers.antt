-- `read::read_members` meets its contract: each literal that is right leaves the way behind it.
-- Assumes nothing.
use Rattle.std.proofs.Common.{arith, ◌+◌, ◌-◌, ◌*◌, ◌<◌, ◌≡◌, ℕ, sym, ap, ap₂, ◌∙◌}
use borrow.Author.Rules.{part_to_end}
use Rattle.literal.specs.Literal.{decoded}
use Rattle.literal.specs.Code.{is_valid, key_at}
use Rattle.set.specs.Code.{members_above}
use Rattle.set.proofs.Laws.Members.{above-right, above-wrong, above_low, above-nil}
use Rattle.set.proofs.read.read_members.Goals as goal

pub loop-i-init : goal.loop-i-init
loop-i-init c = ap₂ (λ (p n : ℕ). members_above c.args.lim c.args.s.now p 0 n) (omega arith) (omega arith)

pub returns-then-not-is_literal : goal.returns-then-not-is_literal
returns-then-not-is_literal c =
    let a = c.args in
    let s = a.s.now in
    let place = 4 + 5 * c.loop-i.i in
    let wrong = ap (λ bs. is_valid (decoded a.lim bs)) (sym (part_to_end s place)) ∙ sym c.is_literal.ensures ∙ c.if-not-is_literal.true in
    c.refuse_member.ensures
    ∙ sym (c.loop-i.invariant ∙ above-wrong a.lim s place c.loop-i.last (a.count - c.loop-i.i) (omega (arith, c.loop-i-test.true)) wrong)

pub returns-then-key-last : goal.returns-then-key-last
returns-then-key-last c =
    let a = c.args in
    let s = a.s.now in
    let place = 4 + 5 * c.loop-i.i in
    let right = ap (λ bs. is_valid (decoded a.lim bs)) (sym (part_to_end s place)) ∙ sym c.is_literal.ensures ∙ c.if-not-is_literal.false in
    let same = c.key_at-key.ensures ∙ ap key_at (part_to_end s place) in
    c.refuse_member-then-key-last.ensures
    ∙ sym (c.loop-i.invariant ∙ above_low a.lim s place c.loop-i.last (a.count - c.loop-i.i) (omega (arith, c.loop-i-test.true)) right
    (omega (arith, same, c.if-key-last.true)))

pub loop-i-preserved : goal.loop-i-preserved
loop-i-preserved c =
    let a = c.args in
    let s = a.s.now in
    let place = 4 + 5 * c.loop-i.i in
    let right = ap (λ bs. is_valid (decoded a.lim bs)) (sym (part_to_end s place)) ∙ sym c.is_literal.ensures ∙ c.if-not-is_literal.false in
    let same = c.key_at-key.ensures ∙ ap key_at (part_to_end s place) in
    c.loop-i.invariant
    ∙ above-right a.lim s place c.loop-i.last (a.count - c.loop-i.i) (omega (arith, c.loop-i-test.true)) right (omega (arith, same, c.if-key-last.false))
    ∙ ap (λ k. members_above a.lim s (place + 5) k (a.count - c.loop-i.i - 1)) (sym same)
    ∙ ap₂ (λ (p n : ℕ). members_above a.lim s p c.key_at-key.result n) (omega arith) (omega arith)

pub returns : goal.returns
returns c =
    let a = c.args in
    sym (c.loop-i.invariant ∙ above-nil a.lim a.s.now (4 + 5 * c.loop-i.i) c.loop-i.last (a.count - c.loop-i.i) (omega (arith, c.loop-i-test.false)))
