-- `write::write_key` meets its contract: the three fields, written one behind the other.
use Rattle.std.proofs.Common.{arith}
use Rattle.keys.proofs.Laws.Bytes.{write-fields}
use Rattle.keys.proofs.write.write_key.Goals as goal

pub returns : goal.returns
returns c =
    let a = c.args in
    rw (c.put_number-2.ensures, c.put_number.ensures, c.put_byte.ensures)
    (write-fields a.out.now a.at a.key (omega arith))
