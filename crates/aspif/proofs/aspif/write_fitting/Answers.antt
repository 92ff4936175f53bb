-- `aspif::write_fitting` meets its contract: where there is enough room for any text, it is written; else it is measured first.
-- Assumes nothing.
use Rattle.std.proofs.Common.{arith}
use Rattle.aspif.proofs.Laws.Outcome.{holds-counted, held-short, roomy, text-met}
use Rattle.aspif.proofs.aspif.write_fitting.Goals as goal

pub room_for-requires : goal.room_for-requires
room_for-requires c = held-short c.requires.exportable c.requires.holds

pub write_measured-requires : goal.write_measured-requires
write_measured-requires c = holds-counted c.requires.exportable c.requires.holds

pub returns-then-out-room_for : goal.returns-then-out-room_for
returns-then-out-room_for c w = c.write_measured.ensures (holds-counted c.requires.exportable w)

-- there is enough room
pub write_text-requires : goal.write_text-requires
write_text-requires c =
    let p = c.requires in
    roomy p.exportable p.holds c.args.numbering.now _ (p.marks p.holds) (omega (arith, c.room_for.ensures, c.if-out-room_for.false))

pub returns : goal.returns
returns c w =
    let p = c.requires in
    let fits = roomy p.exportable w c.args.numbering.now _ (p.marks w) (omega (arith, c.room_for.ensures, c.if-out-room_for.false)) in
    text-met c.args.numbering.now w.program c.args.out.now _ _ fits.asked.fits (c.write_text.ensures fits)
