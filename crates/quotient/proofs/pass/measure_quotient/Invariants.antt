-- The total is the length of what the set leaves of the rules that are gone, and the end record's four bytes.
use Rattle.std.proofs.Common.{◌≡◌, ◌+◌, length}
use Rattle.record_walk.proofs.Laws.Records.{Passing}
use Rattle.set.specs.Code.{key_set}
use Rattle.quotient.specs.Code.{Countable}
use Rattle.quotient.proofs.Laws.Program.{left_bytes}
use Rattle.quotient.proofs.pass.measure_quotient.Given as goal

abbrev pub invariant-loop-part : goal.invariant-loop-part
invariant-loop-part l =
    Passing Countable l.s l.part-iterator.rest.now (λ gone. l.total ≡ 4 + length (left_bytes (key_set l.set.bytes.now l.set.count) gone))
