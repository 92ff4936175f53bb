-- `pairs::write_start`: nine bytes stored in a row.
-- Assumes nothing.
use Rattle.std.proofs.Common.{arith}
use Rattle.buffer.proofs.Laws.Write.{part-write}
use Rattle.aspif_names.specs.Code.{pair_start}
use Rattle.aspif_names.proofs.pairs.write_start.Goals as goal

pub returns : goal.returns
returns c = part-write c.args.out.now c.args.to _ pair_start c.copy_from_slice.ensures.after (omega arith)
