-- The five bytes are the number's lowest.
use Rattle.std.proofs.Common.{arith}
use Rattle.literal.specs.Code.{key_at}
use Rattle.literal_fields.proofs.order.key_at.Goals as goal

pub returns : goal.returns
unfolding key_at
returns c = omega (arith, c.from_be_bytes.ensures)
