-- `text::write_first`: ten bytes stored in a row.
-- Assumes nothing.
use Rattle.std.proofs.Common.{refl}
use Rattle.buffer.specs.Write.{write}
use Rattle.aspif_text.specs.Text.{first_line}
use Rattle.aspif.proofs.text.write_first.Goals as goal

pub returns : goal.returns
unfolding write first_line
returns c = rw c.copy_from_slice.ensures.after refl
