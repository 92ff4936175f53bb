-- The total is the length of what the rules that are gone become, and the end record's four bytes.
use Rattle.std.proofs.Common.{◌≡◌, ◌+◌, length}
use Rattle.record_walk.proofs.Laws.Records.{Passing}
use Rattle.translate.specs.Code.{Translatable}
use Rattle.translate.proofs.Laws.Pass.{bytes_of}
use Rattle.translate.proofs.pass.measure_rules.Given as goal

abbrev pub invariant-loop-part : goal.invariant-loop-part
invariant-loop-part l = Passing Translatable l.s l.part-iterator.rest.now (λ gone. l.total ≡ 4 + length (bytes_of gone))
