-- `read::read_set` meets its contract: at each return the tests that led there say which step of the definition ends it.
-- Assumes nothing.
use Rattle.std.proofs.Common.{arith, sym, ap, ◌∙◌, Ok, Err}
use Rattle.std.proofs.lemmas.Result.{err_from_is_err_and}
use Rattle.set.specs.Code.{members_above}
use Rattle.set.proofs.Laws.Shape.{shaped}
use Rattle.set.proofs.Laws.Answer.{answer-wrong, answer-large, answer-member, answer-right}
use Rattle.set.proofs.read.read_set.Goals as goal

pub returns-then-not-is_shaped : goal.returns-then-not-is_shaped
returns-then-not-is_shaped c =
    let a = c.args in
    c.refuse.ensures ∙ sym (answer-wrong a.lim a.most a.s.now (sym c.is_shaped.ensures ∙ c.if-not-is_shaped.true))

pub get_number-count-requires : goal.get_number-count-requires
get_number-count-requires c = omega (arith, (shaped c.args.s.now (sym c.is_shaped.ensures ∙ c.if-not-is_shaped.false)).whole)

pub returns-then-most-count : goal.returns-then-most-count
returns-then-most-count c =
    let a = c.args in
    let shape = sym c.is_shaped.ensures ∙ c.if-not-is_shaped.false in
    c.refuse-then-most-count.ensures
    ∙ sym (answer-large a.lim a.most a.s.now shape (omega (arith, c.if-most-count.true, c.get_number-count.ensures)))

pub read_members-requires : goal.read_members-requires
read_members-requires c =
    let shape = sym c.is_shaped.ensures ∙ c.if-not-is_shaped.false in
    omega (arith, (shaped c.args.s.now shape).whole, c.get_number-count.ensures)

pub returns-in_err-read_members : goal.returns-in_err-read_members
returns-in_err-read_members c =
    let a = c.args in
    let s = a.s.now in
    let p = err_from_is_err_and c.from_residual.result c.from_residual.ensures.1 in
    let shape = sym c.is_shaped.ensures ∙ c.if-not-is_shaped.false in
    let count = c.get_number-count.ensures in
    let run = ap (λ n. members_above a.lim s 4 0 n) (sym count) ∙ sym c.read_members.ensures ∙ c.in_err-read_members.was in
    p.1 ∙ ap Err p.2 ∙ sym (answer-member a.lim a.most s shape (omega (arith, count, c.if-most-count.false)) (λ i. (c.type_inv.s i).fits) _ run)

pub returns : goal.returns
returns c =
    let a = c.args in
    let s = a.s.now in
    let shape = sym c.is_shaped.ensures ∙ c.if-not-is_shaped.false in
    let count = c.get_number-count.ensures in
    let run = ap (λ n. members_above a.lim s 4 0 n) (sym count) ∙ sym c.read_members.ensures ∙ c.in_ok-read_members.was in
    ap Ok count ∙ sym (answer-right a.lim a.most s shape (omega (arith, count, c.if-most-count.false)) (λ i. (c.type_inv.s i).fits) run)
