-- `rules::measure_rule`: what the counts take, and the fields of all numbers.
-- Assumes nothing.
use Rattle.aspif_rule.proofs.Laws.Rules.{counted-long}
use Rattle.aspif_rule.proofs.rules.measure_rule.Goals as goal

pub returns : goal.returns
returns c =
    counted-long c.args.numbering.now c.args.part.now _ _ _ c.count_literals-count.ensures.value c.measure_counts.ensures c.measure_run.ensures
