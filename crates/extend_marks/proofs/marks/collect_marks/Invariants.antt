-- The marks of the rules that are gone are collected, and the slice of keys keeps its length.
use Rattle.std.proofs.Common.{length}
use Rattle.semantics.specs.Item.{rules}
use Rattle.record_walk.proofs.Laws.ItemRecords.{ItemsPassing}
use Rattle.set.specs.Code.{key_set}
use Rattle.extend_marks.specs.Code.{MarkableFile}
use Rattle.extend_marks.proofs.Laws.Collect.{Collected}
use Rattle.extend_marks.proofs.marks.collect_marks.Given as goal

abbrev pub invariant-loop-part : goal.invariant-loop-part
invariant-loop-part l =
    let u = key_set l.set.bytes.now l.set.count in
    ItemsPassing (MarkableFile (length l.fn.keys)) l.s l.part-iterator.rest.now (λ gone. Collected u l.fn.keys l.keys l.number l.n (rules gone))
