-- `word::put_word`: a blank, then the byte.
-- Assumes nothing.
use Rattle.std.proofs.Common.{[], ◌∷◌, ◌+◌, refl, arith}
use Rattle.buffer.proofs.Laws.Writing.{wrote, wrote_then}
use Rattle.aspif_text.specs.Text.{blank}
use Rattle.aspif_rule.proofs.word.put_word.Goals as goal

pub returns : goal.returns
returns c =
    wrote_then (omega arith) (wrote c.args.at (blank ∷ []) (c.args.at + 1) c.put_byte.ensures refl)
    (wrote (c.args.at + 1) (c.args.b ∷ []) (c.args.at + 2) c.put_byte-2.ensures (omega arith))
