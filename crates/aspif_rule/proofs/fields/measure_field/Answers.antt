-- `fields::measure_field`: a blank and the figures.
-- Assumes nothing.
use Rattle.aspif_rule.proofs.Laws.Fields.{measured}
use Rattle.aspif_rule.proofs.fields.measure_field.Goals as goal

pub returns : goal.returns
returns c = measured c.args.n c.count_figures.result c.count_figures.ensures
