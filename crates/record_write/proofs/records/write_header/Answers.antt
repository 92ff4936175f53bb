-- Seven stores in a row are one write.
use Rattle.record_write.proofs.Laws.Stores.{header-stores}
use Rattle.record_write.proofs.records.write_header.Goals as goal

pub returns : goal.returns
returns c = let a = c.args in header-stores a.out.now a.to a.heads a.positives a.nafs c.requires
