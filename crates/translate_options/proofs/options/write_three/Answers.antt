-- Three records, one right behind the other.
use Prim.Native.Nat.{◌+◌}
use native.Mathlib.Omega.{arith}
use mathlib.Core.Path.{◌∙◌, ap}
use mathlib.Core.List.{◌++◌}
use lib.ListN.{length-append}
use Rattle.buffer.specs.Write.{write}
use Rattle.buffer.proofs.Laws.Next.{write-behind}
use Rattle.semantics.specs.Translation.{holds_if_derived, derived_if_holds, never_both}
use Rattle.record.specs.Layout.{encoded_rule}
use Rattle.record_walk.specs.Code.{tag_at, option_at}
use Rattle.translate_options.proofs.Laws.Options.{length-holds, length-derived, option-pieces}
use Rattle.translate_options.proofs.options.write_three.Goals as goal

pub returns : goal.returns
returns c =
    let a = c.args in
    let s = a.s.now in
    let d = a.out.now in
    let t = tag_at s in
    let o = option_at s a.at in
    let four = encoded_rule (holds_if_derived t o) in
    let five = encoded_rule (derived_if_holds t o) in
    let one = write-behind d a.to four (a.to + 17) five (omega arith) (omega (arith, length-holds t o))
    c.write_holds.ensures c.write_derived.ensures in
    write-behind d a.to (four ++ five) (a.to + 39) (encoded_rule (never_both t o)) (omega arith)
    (omega (arith, length-append four five, length-holds t o, length-derived t o)) one c.write_never_both.ensures
    ∙ ap (write d a.to) (option-pieces t o)
