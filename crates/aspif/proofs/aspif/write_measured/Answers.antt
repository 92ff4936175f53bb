-- `aspif::write_measured` meets its contract: 9 for a buffer shorter than what was measured, else the text.
-- Assumes nothing.
use Rattle.std.proofs.Common.{arith}
use Rattle.aspif.proofs.Laws.Outcome.{holds-numberable, measured-fits, short-met, text-met}
use Rattle.aspif.proofs.aspif.write_measured.Goals as goal

pub measure_text-n-requires : goal.measure_text-n-requires
measure_text-n-requires c = holds-numberable c.requires

pub returns-then-out-n : goal.returns-then-out-n
returns-then-out-n c w =
    rw c.refuse.ensures
    (short-met c.args.numbering.now w.program c.args.out.now _ (c.measure_text-n.ensures (holds-numberable w)) c.if-out-n.true)

pub write_text-requires : goal.write_text-requires
write_text-requires c =
    let held = c.requires in
    measured-fits held (omega (arith, c.measure_text-n.ensures (holds-numberable held), c.if-out-n.false))

pub returns : goal.returns
returns c w =
    let long = c.measure_text-n.ensures (holds-numberable w) in
    text-met c.args.numbering.now w.program c.args.out.now _ _ (omega (arith, long, c.if-out-n.false))
    (c.write_text.ensures (measured-fits w (omega (arith, long, c.if-out-n.false))))
