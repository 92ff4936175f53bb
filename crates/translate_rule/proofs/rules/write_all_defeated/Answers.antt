-- A header, rule-defeated n, and the defeat marks.
use Prim.Native.Nat.{◌+◌}
use native.Mathlib.Omega.{arith}
use mathlib.Core.Path.{◌∙◌, ap}
use mathlib.Core.Bool.{false}
use mathlib.Core.List.{◌++◌}
use lib.ListN.{length-append}
use Rattle.buffer.specs.Write.{write}
use Rattle.buffer.proofs.Laws.Next.{write-behind}
use Rattle.literal.specs.Literal.{encoded}
use Rattle.literal.proofs.Laws.Literal.{length-encoded}
use Rattle.semantics.specs.Translation.{rule_defeated}
use Rattle.record.specs.Header.{head_count}
use Rattle.record_walk.specs.Code.{tag_at, options_at}
use Rattle.record_walk.proofs.Laws.Options.{length-options-at}
use Rattle.record_write.specs.Code.{header}
use Rattle.record_write.proofs.Laws.Stores.{length-header}
use Rattle.translate_options.proofs.Laws.Marks.{marks}
use Rattle.translate_rule.proofs.Laws.Rule.{all-defeated-written}
use Rattle.translate_rule.proofs.rules.write_all_defeated.Goals as goal

pub returns : goal.returns
returns c =
    let a = c.args in
    let s = a.s.now in
    let d = a.out.now in
    let k = head_count s in
    let mark = encoded (rule_defeated a.n.0) in
    let one = write-behind d a.to (header 1 k 0) (a.to + 7) mark (omega arith) (omega (arith, length-header 1 k 0))
    c.write_header.ensures c.encode.ensures in
    write-behind d a.to (header 1 k 0 ++ mark) (a.to + 12) (marks s false (tag_at s) 7 k) (omega arith)
    (omega (arith, length-append (header 1 k 0) mark, length-header 1 k 0, length-encoded (rule_defeated a.n.0))) one
    c.write_marks.ensures
    ∙ ap (write d a.to) (all-defeated-written a.n.0 (tag_at s) (options_at s 7 k) k (length-options-at s k 7))
