-- `read::read_items` meets its contract: what is read of a record, where the run of rules before it ends, is what reading finds there.
-- Assumes nothing.
use Rattle.std.proofs.Common.{rules as known, arith, refl, sym, ap, ◌∙◌, Ok, Err}
use borrow.Author.Rules.{part_to_end}
use Rattle.record.proofs.Laws.Program.{items-long, items_left}
use Rattle.record_read.proofs.Laws.Run.{behind-size, behind-few, behind-next, behind-end, behind-place, behind-refused}
use Rattle.record_read.proofs.read.read_items.Goals as goal

pub returns-then-lim-s : goal.returns-then-lim-s
returns-then-lim-s c = c.refuse.ensures ∙ sym (items-long c.args.lim c.args.s.now c.if-lim-s.true)

pub loop-found-init : goal.loop-found-init
loop-found-init c = (search known, search known, items_left c.args.lim c.args.s.now c.if-lim-s.false)

pub returns-in_default : goal.returns-in_default
returns-in_default c =
    let s = c.args.s.now in
    let l = c.loop-found in
    let run = c.read_rules-run in
    sym (l.invariant.2 ∙ behind-end c.args.lim s l.at l.held run.result _ run.ensures refl _ (part_to_end s run.result.at) _ c.read_stop.ensures
    (sym c.hold.ensures ∙ c.in-Ok.is ∙ ap Ok c.in_default.is))

pub overflow_add-at : goal.overflow_add-at
overflow_add-at c =
    let s = c.args.s.now in
    let l = c.loop-found in
    let run = c.read_rules-run in
    let size = behind-size c.args.lim s l.at l.held run.result _ run.ensures refl _ (part_to_end s run.result.at) _ c.read_stop.ensures _ _
    (sym c.hold.ensures ∙ c.in-Ok.is ∙ ap Ok c.in-Some.is) in
    omega (arith, size)

pub loop-found-smaller : goal.loop-found-smaller
loop-found-smaller c =
    let s = c.args.s.now in
    let l = c.loop-found in
    let run = c.read_rules-run in
    let size = behind-size c.args.lim s l.at l.held run.result _ run.ensures refl _ (part_to_end s run.result.at) _ c.read_stop.ensures _ _
    (sym c.hold.ensures ∙ c.in-Ok.is ∙ ap Ok c.in-Some.is) in
    omega (arith, size, run.ensures.later)

pub loop-found-preserved : goal.loop-found-preserved
loop-found-preserved c =
    let s = c.args.s.now in
    let l = c.loop-found in
    let run = c.read_rules-run in
    let part = part_to_end s run.result.at in
    let found = sym c.hold.ensures ∙ c.in-Ok.is ∙ ap Ok c.in-Some.is in (
      (behind-size c.args.lim s l.at l.held run.result _ run.ensures refl _ part _ c.read_stop.ensures _ _ found).1,
      behind-few c.args.lim s l.at l.held run.result _ run.ensures refl _ part _ c.read_stop.ensures _ _ found,
      l.invariant.2 ∙ behind-next c.args.lim s l.at l.held run.result _ run.ensures refl _ part _ c.read_stop.ensures _ _ found,
    )

pub behind-requires : goal.behind-requires
behind-requires c =
    let s = c.args.s.now in
    let l = c.loop-found in
    let run = c.read_rules-run in
    let place = behind-place c.args.lim s l.at l.held run.result _ run.ensures refl _ (part_to_end s run.result.at) _ c.read_stop.ensures _
    (sym c.hold.ensures ∙ c.in-Err.is) in
    omega (arith, place)

pub returns-in-Err : goal.returns-in-Err
returns-in-Err c =
    let s = c.args.s.now in
    let l = c.loop-found in
    let run = c.read_rules-run in
    ap Err c.behind.ensures
    ∙ sym (l.invariant.2 ∙ behind-refused c.args.lim s l.at l.held run.result _ run.ensures refl _ (part_to_end s run.result.at) _ c.read_stop.ensures _
    (sym c.hold.ensures ∙ c.in-Err.is))
