-- `names::measure_name`: eight bytes, the atom's figures and a field.
-- Assumes nothing.
use Rattle.aspif_names.proofs.Laws.Names.{name-measured}
use Rattle.aspif_names.proofs.names.measure_name.Goals as goal

pub returns : goal.returns
returns c = name-measured c.args.negated c.args.a c.args.n _ _ c.requires c.count_figures.ensures c.measure_field.ensures
