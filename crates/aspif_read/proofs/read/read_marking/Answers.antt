-- `read::read_marking` meets its contract: record by record, what is read of it and the marks of its literals.
-- Assumes nothing.
use Rattle.std.proofs.Common.{arith, refl, sym, ap, ◌∙◌, Ok, Err}
use borrow.Author.Rules.{part_to_end}
use Rattle.aspif_read.proofs.Laws.Program.{going_start, going-long, going-size, going_next, going-count, going-marks, going-refused, going-place}
use Rattle.aspif_read.proofs.read.read_marking.Goals as goal

pub returns-then-lim-s-clause-value : goal.returns-then-lim-s-clause-value
returns-then-lim-s-clause-value c = c.refuse.ensures ∙ sym (going-long c.args.lim c.args.s.now c.if-lim-s.true)

pub loop-found-init : goal.loop-found-init
loop-found-init c =
    let a = c.args in
    going_start a.lim a.s.now a.bits.now a.counts.now c.if-lim-s.false c.requires.tallied

pub returns-in_default-clause-value : goal.returns-in_default-clause-value
returns-in_default-clause-value c =
    let end = sym c.hold.ensures ∙ c.in-Ok.is ∙ ap Ok c.in_default.is in
    sym (going-count c.loop-found.invariant _ (part_to_end c.args.s.now c.loop-found.at) _ c.mark_record.ensures.value _ refl end)

pub returns-in_default-clause-by_index : goal.returns-in_default-clause-by_index
returns-in_default-clause-by_index c n counted w =
    let end = sym c.hold.ensures ∙ c.in-Ok.is ∙ ap Ok c.in_default.is in
    going-marks c.loop-found.invariant _ (part_to_end c.args.s.now c.loop-found.at) _ c.mark_record.ensures.value _ refl (λ i. (c.type_inv.s i).fits) end
    c.requires.bits_len c.requires.empty _ c.mark_record.ensures.marked w

pub overflow_add-at : goal.overflow_add-at
overflow_add-at c =
    let next = sym c.hold.ensures ∙ c.in-Ok.is ∙ ap Ok c.in-Some.is in
    omega (arith, going-size c.loop-found.invariant _ (part_to_end c.args.s.now c.loop-found.at) _ c.mark_record.ensures.value _ refl _ _ next)

pub loop-found-smaller : goal.loop-found-smaller
loop-found-smaller c =
    let next = sym c.hold.ensures ∙ c.in-Ok.is ∙ ap Ok c.in-Some.is in
    omega (arith, going-size c.loop-found.invariant _ (part_to_end c.args.s.now c.loop-found.at) _ c.mark_record.ensures.value _ refl _ _ next)

pub loop-found-preserved : goal.loop-found-preserved
loop-found-preserved c =
    let next = sym c.hold.ensures ∙ c.in-Ok.is ∙ ap Ok c.in-Some.is in
    let made = c.mark_record.ensures in
    going_next c.loop-found.invariant _ (part_to_end c.args.s.now c.loop-found.at) _ made.value _ refl (λ i. (c.type_inv.s i).fits) c.requires.sheets_value
    _ _ next _ _ made.marked made.tallied_2

pub behind-requires : goal.behind-requires
behind-requires c =
    omega (
      arith,
      going-place c.loop-found.invariant _ (part_to_end c.args.s.now c.loop-found.at) _ c.mark_record.ensures.value _ refl _
          (sym c.hold.ensures ∙ c.in-Err.is),
    )

pub returns-in-Err-clause-value : goal.returns-in-Err-clause-value
returns-in-Err-clause-value c =
    ap Err c.behind.ensures
    ∙ sym (going-refused c.loop-found.invariant _ (part_to_end c.args.s.now c.loop-found.at) _ c.mark_record.ensures.value _ refl _
    (sym c.hold.ensures ∙ c.in-Err.is))
