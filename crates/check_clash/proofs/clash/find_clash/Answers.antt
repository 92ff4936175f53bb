-- `clash::find_clash` meets its contract: the literals one by one.
use Rattle.std.proofs.Common.{◌≡◌, ℕ, ◌+◌, ◌-◌, ◌*◌, Bool, List, length, take, drop, sym, ◌∙◌, ap, arith}
use Rattle.std.proofs.lemmas.List.{take_rest}
use Rattle.check_clash.specs.Code.{opposed_in}
use Rattle.check_clash.proofs.Laws.Clash.{clash-here, clash-step, clash-end}
use Rattle.check_clash.proofs.clash.find_clash.Goals as goal

-- what was found of the literal at a place
found : (s : List ℕ) (n at : ℕ) {r : Bool} → r ≡ opposed_in s n (take (length s - at) (drop at s)) → opposed_in s n (drop at s) ≡ r
found s n at e = sym (e ∙ ap (opposed_in s n) (take_rest s at))

pub returns-then-is_opposed : goal.returns-then-is_opposed
returns-then-is_opposed c =
    let s = c.args.set in
    let i = c.loop-i.i in
    sym (c.loop-i.invariant
    ∙ clash-here s.bytes.now s.count (1 + i) (4 + 5 * i) _ (omega arith) (found s.bytes.now s.count _ c.is_opposed.ensures ∙ c.if-is_opposed.true))

pub loop-i-preserved : goal.loop-i-preserved
loop-i-preserved c =
    let s = c.args.set in
    c.loop-i.invariant
    ∙ clash-step s.bytes.now s.count c.loop-i.i c.loop-i-test.true (found s.bytes.now s.count _ c.is_opposed.ensures ∙ c.if-is_opposed.false)

pub returns : goal.returns
returns c =
    let s = c.args.set in
    let i = c.loop-i.i in
    sym (c.loop-i.invariant ∙ clash-end s.bytes.now s.count (1 + i) (4 + 5 * i) _ (omega arith))
