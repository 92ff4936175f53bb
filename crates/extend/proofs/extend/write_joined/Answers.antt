-- `extend::write_joined` meets its contract: the header, the literals behind it, the keys behind them.
use Rattle.std.proofs.Common.{length}
use Rattle.extend.proofs.Laws.Joined.{joined-writes}
use Rattle.extend.proofs.extend.write_joined.Goals as goal

pub returns : goal.returns
returns c =
    let a = c.args in
    joined-writes a.set.bytes.now a.set.count a.marks.now (length a.marks.now) a.out.now _ _ _ a.set.fits
    c.write_set_header.ensures c.copy.ensures c.write_keys.ensures
