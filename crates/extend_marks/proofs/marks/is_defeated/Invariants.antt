-- All options are defeated if those left are.
use Rattle.std.proofs.Common.{◌≡◌, ◌+◌, ◌-◌, ◌*◌}
use Rattle.literal.specs.declared.Literal.TheVariants.{Defeated}
use Rattle.semantics.specs.Set.{each_of}
use Rattle.record.specs.Header.{head_count}
use Rattle.record_walk.specs.Code.{tag_at, options_at}
use Rattle.set.specs.Code.{key_set}
use Rattle.extend_marks.proofs.marks.is_defeated.Given as goal

abbrev pub invariant-loop-i : goal.invariant-loop-i
invariant-loop-i l =
    let u = key_set l.set.bytes.now l.set.count in
    let rest = options_at l.part (7 + 5 * l.i) (head_count l.part - l.i) in
    each_of (λ a. u (Defeated (tag_at l.part) a)) (options_at l.part 7 (head_count l.part)) ≡ each_of (λ a. u (Defeated (tag_at l.part) a)) rest
