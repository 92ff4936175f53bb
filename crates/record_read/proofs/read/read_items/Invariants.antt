-- What is answered is what the part from `at` on comes to with what is held, and each item that is held took six bytes or more; the bytes left
-- fall.
-- Assumes nothing.
use Rattle.std.proofs.Common.{◌-◌, ◌*◌, ◌≤◌, ◌≡◌, length}
use Rattle.record.specs.Reading.{items, holding_of}
use Rattle.record.specs.Code.{total, left}
use Rattle.record_read.proofs.read.read_items.Given as goal

abbrev pub invariant-loop-found : goal.invariant-loop-found
invariant-loop-found l = (l.at ≤ length l.s) × (6 * total l.held ≤ l.at) × (holding_of (items l.lim l.s) ≡ left l.lim l.s l.at l.held)

abbrev pub decreases-loop-found : goal.decreases-loop-found
decreases-loop-found l = length l.s - l.at
