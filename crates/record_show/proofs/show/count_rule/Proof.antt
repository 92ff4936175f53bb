-- `show::count_rule` meets its contract: a case for each letter.
-- Assumes nothing.
use mathlib.Core.Path.{sym}
use Rattle.record_show.proofs.Laws.Extent.{count-override, count-opposition, count-rule}
use Rattle.record_show.proofs.show.count_rule.Statement.{statement}
use Rattle.record_show.proofs.show.count_rule.Tie as tie

returns : tie.Need-returns-in-79
returns c = sym (count-override _ c.in-79.is)

returns-2 : tie.Need-returns-in-88
returns-2 c = sym (count-opposition _ c.in-88.is)

returns-3 : tie.Need-returns-in_default
returns-3 c = sym (count-rule _ c.in_default.in_default-own.rest.0.1 c.in_default.in_default-own.rest.1)

pub count_rule_spec : {M : Type 1} → statement M
count_rule_spec = tie.close (tie.spec returns returns-2 returns-3)
