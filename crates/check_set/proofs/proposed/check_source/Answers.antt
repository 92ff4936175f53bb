-- `proposed::check_source` meets its contract: the limits are those of the source form.
use Rattle.check_set.proofs.Laws.Forms.{checkable-source, checked-same}
use Rattle.check_set.proofs.proposed.check_source.Goals as goal

pub check_file-requires-clause-checkable_file : goal.check_file-requires-clause-checkable_file
check_file-requires-clause-checkable_file c = (checkable-source c.limits.ensures).0

pub check_file-requires-clause-normalizable : goal.check_file-requires-clause-normalizable
check_file-requires-clause-normalizable c = (checkable-source c.limits.ensures).1

pub returns : goal.returns
returns c = checked-same c.args.s.now c.args.k.now c.args.out.now c.limits.ensures c.check_file.ensures
