-- A header, the derivation marks, the body's bytes, and rule-defeated n.
use Prim.Native.Nat.{◌+◌, ◌*◌}
use native.Mathlib.Omega.{arith}
use mathlib.Core.Path.{◌∙◌, ap}
use mathlib.Core.Bool.{true}
use mathlib.Core.List.{◌++◌}
use lib.ListN.{take, drop, length-append, length-take, length-drop}
use Rattle.buffer.specs.Write.{write}
use Rattle.buffer.proofs.Laws.Next.{write-behind}
use Rattle.literal.specs.Literal.{encoded}
use Rattle.semantics.specs.Translation.{rule_defeated}
use Rattle.record.specs.Header.{head_count, positive_count, naf_count}
use Rattle.record_walk.specs.Code.{tag_at}
use Rattle.record_write.specs.Code.{header}
use Rattle.record_write.proofs.Laws.Stores.{length-header}
use Rattle.translate_options.proofs.Laws.Marks.{length-marks, marks}
use Rattle.translate_rule.proofs.Laws.Rule.{choice-written}
use Rattle.translate_rule.proofs.rules.write_choice.Goals as goal

pub returns : goal.returns
returns c =
    let a = c.args in
    let s = a.s.now in
    let d = a.out.now in
    let k = head_count s in
    let hd = header k (positive_count s) (naf_count s + 1) in
    let ms = marks s true (tag_at s) 7 k in
    let bs = take (5 * (positive_count s + naf_count s)) (drop (7 + 5 * k) s) in
    let seven = length-header k (positive_count s) (naf_count s + 1) in
    let marked = length-marks s true (tag_at s) 7 k in
    let one = write-behind d a.to hd (a.to + 7) ms (omega arith) (omega (arith, seven))
    c.write_header.ensures c.write_marks.ensures in
    let two = write-behind d a.to (hd ++ ms) (a.to + 7 + 5 * k) bs (omega arith)
    (omega (arith, seven, marked, length-append hd ms)) one c.copy.ensures in
    λ t h b e w. write-behind d a.to ((hd ++ ms) ++ bs) (a.to + 7 + 5 * k + 5 * (positive_count s + naf_count s))
    (encoded (rule_defeated a.n.0)) (omega arith)
    (omega (
      arith,
      seven,
      marked,
      length-append hd ms,
      length-append (hd ++ ms) bs,
      length-take (5 * (positive_count s + naf_count s)) (drop (7 + 5 * k) s),
      length-drop (7 + 5 * k) s,
    )) two
    c.encode.ensures
    ∙ ap (write d a.to) (choice-written s t h b e w a.n.0)
