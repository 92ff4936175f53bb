-- `decimal::write_four`: the bytes of the packed number are the figures.
-- Assumes nothing.
use Rattle.std.proofs.Common.{arith, ◌∙◌}
use Rattle.buffer.proofs.Laws.Write.{part-write}
use Rattle.decimal.specs.Code.{four_figures}
use Rattle.decimal.proofs.Laws.Runs.{packed-bytes}
use Rattle.decimal.proofs.decimal.write_four.Goals as goal

pub returns : goal.returns
returns c =
    part-write c.args.out.now c.args.at _ (four_figures c.args.n)
    (c.copy_from_slice.ensures.after ∙ c.to_le_bytes.ensures ∙ packed-bytes c.args.n _ c.pack_four.ensures) (omega arith)
