-- What is copied are the number's eight bytes.
use Rattle.std.proofs.Common.{arith}
use Rattle.buffer.specs.Bytes.{eight_bytes}
use Rattle.buffer.proofs.Laws.Write.{part-write}
use Rattle.buffer.proofs.put.put_eight.Goals as goal

pub returns : goal.returns
returns c = part-write c.args.out.now c.args.at _ (eight_bytes c.args.v) (cc) (omega arith)
