-- The marks of the options passed are there, those of the others are left.
use Rattle.std.proofs.Common.{◌+◌, ◌-◌, ◌*◌, ◌≤◌, map}
use Rattle.literal.specs.Order.{key}
use Rattle.record.specs.Header.{head_count}
use Rattle.record_walk.specs.Code.{tag_at, options_at}
use Rattle.set.specs.Code.{key_set}
use Rattle.extend_marks.specs.Marks.{derived_marks}
use Rattle.extend_marks.proofs.Laws.Gained.{Gaining}
use Rattle.extend_marks.proofs.marks.add_options.Given as goal

abbrev pub invariant-loop-i : goal.invariant-loop-i
invariant-loop-i l =
    let u = key_set l.set.bytes.now l.set.count in
    let all = options_at l.part 7 (head_count l.part) in
    let rest = options_at l.part (7 + 5 * l.i) (head_count l.part - l.i) in
    (l.added ≤ l.i) × Gaining (map key (derived_marks (tag_at l.part) all u)) l.fn.keys l.keys l.n l.added (map key (derived_marks (tag_at l.part) rest u))
