-- A header, and the literals' bytes behind it.
use Prim.Native.Nat.{◌+◌, ◌*◌}
use native.Mathlib.Omega.{arith}
use mathlib.Core.Path.{◌∙◌, ap}
use lib.ListN.{take, drop}
use Rattle.buffer.specs.Write.{write}
use Rattle.buffer.proofs.Laws.Next.{write-behind}
use Rattle.record.specs.Header.{head_count, positive_count, naf_count}
use Rattle.record_write.specs.Code.{header}
use Rattle.record_write.proofs.Laws.Stores.{length-header}
use Rattle.record_write.proofs.Laws.Header.{strict-written}
use Rattle.translate_rule.proofs.rules.write_strict.Goals as goal

pub returns : goal.returns
returns c =
    let a = c.args in
    let s = a.s.now in
    λ h b k w. write-behind a.out.now a.to (header (head_count s) (positive_count s) (naf_count s)) (a.to + 7)
    (take (5 * (head_count s + positive_count s + naf_count s)) (drop 7 s)) (omega arith)
    (omega (arith, length-header (head_count s) (positive_count s) (naf_count s))) c.write_header.ensures c.copy.ensures
    ∙ ap (write a.out.now a.to) (strict-written s h b k w)
