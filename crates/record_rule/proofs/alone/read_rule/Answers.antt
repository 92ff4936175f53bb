-- `alone::read_rule` meets its contract: too short a part, or a case for each start.
-- Assumes nothing.
use Rattle.std.proofs.Common.{sym, ◌∙◌}
use Rattle.record.proofs.Laws.Only.{only-cut, only-wrong, only_step}
use Rattle.record_step.proofs.Laws.Front.{rule-ruled, end-unruled, other-unruled}
use Rattle.record_rule.proofs.alone.read_rule.Goals as goal

pub returns-then-t-lt2 : goal.returns-then-t-lt2
returns-then-t-lt2 c = c.refuse.ensures ∙ sym (only-cut c.args.lim c.args.held c.args.t.now c.if-t-lt2.true)

pub read_marked-requires : goal.read_marked-requires
read_marked-requires c = rule-ruled _ _ (sym c.open_record.ensures ∙ c.in-Rule.is)

pub returns-in-Rule : goal.returns-in-Rule
returns-in-Rule c =
    c.read_marked.ensures
    ∙ sym (only_step c.args.lim c.args.held c.args.t.now c.if-t-lt2.false (rule-ruled _ _ (sym c.open_record.ensures ∙ c.in-Rule.is)))

pub returns-in-End : goal.returns-in-End
returns-in-End c =
    c.refuse-in-End.ensures
    ∙ sym (only-wrong c.args.lim c.args.held c.args.t.now c.if-t-lt2.false (end-unruled _ (sym c.open_record.ensures ∙ c.in-End.is)))

pub returns-in-Other : goal.returns-in-Other
returns-in-Other c =
    c.refuse-in-Other.ensures
    ∙ sym (only-wrong c.args.lim c.args.held c.args.t.now c.if-t-lt2.false (other-unruled _ (sym c.open_record.ensures ∙ c.in-Other.is)))
