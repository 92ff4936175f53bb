-- `lines::put_mark`: three bytes stored in a row.
-- Assumes nothing.
use Rattle.std.proofs.Common.{[], ◌∷◌, arith}
use Rattle.buffer.proofs.Laws.Write.{part-write}
use Rattle.aspif_text.specs.Text.{blank}
use Rattle.aspif_rule.proofs.lines.put_mark.Goals as goal

pub returns : goal.returns
returns c =
    part-write c.args.text.now c.args.to _ (0x31 ∷ blank ∷ 0x30 ∷ []) c.copy_from_slice.ensures.after (omega arith)
