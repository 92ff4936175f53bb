-- The two bytes that are copied are the number's: of a number of two bytes the higher, n / 256 % 256, is n / 256.
use Rattle.std.proofs.Common.{arith, ◌≡◌, ◌/◌, ◌%◌}
use Rattle.buffer.specs.Bytes.{two_bytes}
use Rattle.buffer.proofs.Laws.Write.{part-write}
use Rattle.buffer.proofs.put.put_number.Goals as goal

pub returns : goal.returns
returns c =
    let high : c.args.n / 256 % 256 ≡ c.args.n / 256 = omega arith in
    part-write c.args.out.now c.args.at _ (two_bytes c.args.n) (cc) (omega arith)
