-- `text::write_last`: two bytes stored in a row.
-- Assumes nothing.
use Rattle.std.proofs.Common.{refl, arith}
use Rattle.buffer.proofs.Laws.Write.{part-write}
use Rattle.aspif_text.specs.Text.{last_line}
use Rattle.aspif.proofs.text.write_last.Goals as goal

pub returns : goal.returns
unfolding last_line
returns c =
    record { bytes = part-write c.args.out.now c.args.to _ last_line c.copy_from_slice.ensures.after (omega arith); next = refl }
