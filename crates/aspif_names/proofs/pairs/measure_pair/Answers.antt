-- `pairs::measure_pair`: ten bytes and two fields.
-- Assumes nothing.
use Rattle.aspif_names.proofs.Laws.Pairs.{pair-measured}
use Rattle.aspif_names.proofs.pairs.measure_pair.Goals as goal

pub returns : goal.returns
returns c = pair-measured c.args.n c.args.m _ _ c.measure_field.ensures c.measure_field-2.ensures
