-- `proposed::check_plain` meets its contract: the limits are those of the plain form.
use Rattle.check_set.proofs.Laws.Forms.{checkable-plain, checked-same}
use Rattle.check_set.proofs.proposed.check_plain.Goals as goal

pub check-requires-clause-checkable : goal.check-requires-clause-checkable
check-requires-clause-checkable c = (checkable-plain c.limits.ensures).0

pub check-requires-clause-sheets_value : goal.check-requires-clause-sheets_value
check-requires-clause-sheets_value c = (checkable-plain c.limits.ensures).1

pub returns : goal.returns
returns c = checked-same c.args.s.now c.args.k.now c.args.out.now c.limits.ensures c.check.ensures
