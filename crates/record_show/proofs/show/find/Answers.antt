-- `show::find` meets its contract: read's refusal, no such rule, or the record that the walk comes to.
-- Assumes nothing.
use Rattle.std.proofs.Common.{arith, ◌≤◌, sym, ap, ◌∙◌, Ok, Err}
use Rattle.std.proofs.lemmas.Result.{err_from_is_err_and}
use Rattle.record_show.proofs.Laws.Shown.{shown-refused, shown-zero, shown-above, given-file, shown-file, given, shown-given}
use Rattle.record_show.proofs.show.find.Goals as goal

pub returns-in_err-held : goal.returns-in_err-held
returns-in_err-held c =
    let a = c.args in
    let p = err_from_is_err_and c.from_residual.result c.from_residual.ensures.1 in
    p.1 ∙ ap Err p.2 ∙ sym (shown-refused a.lim a.s.now a.number _ (sym c.read_items.ensures ∙ c.in_err-held.was))

pub returns-then-n-eq0 : goal.returns-then-n-eq0
returns-then-n-eq0 c =
    let a = c.args in
    c.refuse.ensures ∙ sym (shown-zero a.lim a.s.now a.number _ (sym c.read_items.ensures ∙ c.in_ok-held.was) c.if-n-eq0.true)

pub returns-then-held-n : goal.returns-then-held-n
returns-then-held-n c =
    let a = c.args in
    c.refuse-then-held-n.ensures
    ∙ sym (shown-above a.lim a.s.now a.number _ (sym c.read_items.ensures ∙ c.in_ok-held.was) (omega (arith, c.if-held-n.true)))

pub walk_items-requires : goal.walk_items-requires
walk_items-requires c =
    let a = c.args in
    given-file a.lim a.s.now a.number _ (sym c.read_items.ensures ∙ c.in_ok-held.was) (λ i. (c.type_inv.s i).fits) (omega (arith, c.if-n-eq0.false))
    c.if-held-n.false

pub returns-then-has_sheets : goal.returns-then-has_sheets
returns-then-has_sheets c =
    let a = c.args in
    let held = sym c.read_items.ensures ∙ c.in_ok-held.was in
    let some : 1 ≤ a.number = omega (arith, c.if-n-eq0.false) in
    ap Ok (c.walk_items.ensures (given-file a.lim a.s.now a.number _ held (λ i. (c.type_inv.s i).fits) some c.if-held-n.false))
    ∙ sym (shown-file a.lim a.s.now a.number _ held (λ i. (c.type_inv.s i).fits) some c.if-held-n.false)

pub walk-requires : goal.walk-requires
walk-requires c =
    let a = c.args in
    given a.lim a.s.now a.number _ (sym c.read_items.ensures ∙ c.in_ok-held.was) (λ i. (c.type_inv.s i).fits) (omega (arith, c.if-n-eq0.false))
    c.if-held-n.false (sym c.has_sheets.ensures ∙ c.if-has_sheets.false)

pub returns : goal.returns
returns c =
    let a = c.args in
    let held = sym c.read_items.ensures ∙ c.in_ok-held.was in
    let some : 1 ≤ a.number = omega (arith, c.if-n-eq0.false) in
    let none = sym c.has_sheets.ensures ∙ c.if-has_sheets.false in
    ap Ok (c.walk.ensures (given a.lim a.s.now a.number _ held (λ i. (c.type_inv.s i).fits) some c.if-held-n.false none))
    ∙ sym (shown-given a.lim a.s.now a.number _ held (λ i. (c.type_inv.s i).fits) some c.if-held-n.false none)
