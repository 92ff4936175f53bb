-- (2), (3), and (4) to (6) of each option, one behind the other.
use Prim.Native.Nat.{◌+◌, ◌*◌}
use native.Mathlib.Omega.{arith}
use mathlib.Core.Path.{◌∙◌, ap}
use mathlib.Core.List.{◌++◌}
use lib.ListN.{length-append}
use Rattle.buffer.specs.Write.{write}
use Rattle.buffer.proofs.Laws.Next.{write-behind}
use Rattle.semantics.specs.Translation.{choice, all_defeated, options}
use Rattle.record.specs.Header.{head_count, positive_count, naf_count}
use Rattle.record.specs.Layout.{encoded_rule, encoded_rules}
use Rattle.record_walk.specs.Code.{tag_at, options_at}
use Rattle.record_walk.proofs.Laws.Options.{length-options-at}
use Rattle.translate_rule.proofs.Laws.Rule.{defeasible-written, length-choice, length-all-defeated}
use Rattle.translate_rule.proofs.rules.write_defeasible.Goals as goal

pub returns : goal.returns
returns c =
    let a = c.args in
    let s = a.s.now in
    let d = a.out.now in
    let n = a.n.0 in
    let k = head_count s in
    let os = options_at s 7 k in
    let end2 = a.to + 12 + 5 * (k + positive_count s + naf_count s) in
    let three = encoded_rule (all_defeated n (tag_at s) os) in
    λ t h b e w.
    let two = encoded_rule (choice n t h b e) in
    let one = write-behind d a.to two end2 three (omega arith) (omega (arith, length-choice s t h b e w n))
    (c.write_choice.ensures t h b e w) c.write_all_defeated.ensures in
    write-behind d a.to (two ++ three) (end2 + 12 + 5 * k) (encoded_rules (options (tag_at s) os)) (omega arith)
    (omega (arith, length-append two three, length-choice s t h b e w n, length-all-defeated n (tag_at s) os, length-options-at s k 7))
    one c.write_options.ensures
    ∙ ap (write d a.to) (defeasible-written s t h b e w n)
