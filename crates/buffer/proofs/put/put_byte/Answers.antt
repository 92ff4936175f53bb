-- One store is a write of one element.
use Rattle.std.proofs.Common.{rules}
use Rattle.buffer.proofs.Laws.Write.{set-write}
use Rattle.buffer.proofs.put.put_byte.Goals as goal

pub returns : goal.returns
returns c = set-write c.args.out.now c.args.at c.args.b (search rules)
