-- The measures of `find::settle` and `find::try_open`, which call each other: twice the open positions, and one more where
-- `settle` still may change nothing.
use Rattle.std.proofs.Common.{◌+◌, ◌*◌}
use Rattle.check_force.proofs.Laws.Narrow.{open-count}
use Rattle.check_search.proofs.find.+settle_try_open.Given as goal

abbrev pub decreases-settle : goal.decreases-settle
decreases-settle l = 2 * open-count l.start.must l.start.may + 1

abbrev pub decreases-try_open : goal.decreases-try_open
decreases-try_open l = 2 * open-count l.now.must l.now.may
