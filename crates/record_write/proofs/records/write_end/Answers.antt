-- Two stores and a number behind them are one write.
use Rattle.std.proofs.Common.{arith}
use Rattle.record_write.proofs.Laws.Stores.{end-stores}
use Rattle.record_write.proofs.records.write_end.Goals as goal

pub returns : goal.returns
returns c =
    let a = c.args in end-stores a.out.now _ a.to a.rules (omega arith) c.put_number.ensures
