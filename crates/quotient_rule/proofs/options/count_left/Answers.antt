-- `options::count_left` meets its contract: each option is passed or counted.
use Rattle.std.proofs.Common.{◌+◌, ◌*◌, ◌-◌, sym, ◌∙◌, ap, length, arith}
use Rattle.quotient_rule.proofs.Laws.Left.{left-passed, left-taken, left-none}
use Rattle.quotient_rule.proofs.options.count_left.Goals as goal
use Rattle.quotient_rule.proofs.options.count_left.Goals.{then-not-is_defeated, else-not-is_defeated}

pub loop-i-preserved : goal.loop-i-preserved
loop-i-preserved c =
    let t = c.args.t.now in
    let s = c.args.set in
    let n = c.args.heads in
    let i = c.loop-i.i in
    let lt = c.loop-i-test.true in
    let e = sym c.is_defeated.ensures in
    elim c.if-not-is_defeated.branch [
      | then-not-is_defeated w ↦
          omega (arith, ap length (left-taken t s.bytes.now s.count 7 n i lt (e ∙ w.if-not-is_defeated.true)), c.loop-i.invariant.0, c.loop-i.invariant.1)
      | else-not-is_defeated w ↦
          omega (arith, ap length (left-passed t s.bytes.now s.count 7 n i lt (e ∙ w.if-not-is_defeated.false)), c.loop-i.invariant.0, c.loop-i.invariant.1)
    ]

pub returns : goal.returns
returns c =
    let s = c.args.set in
    let none = left-none c.args.t.now s.bytes.now s.count (7 + 5 * c.loop-i.i) (c.args.heads - c.loop-i.i) (omega arith) in
    omega (arith, c.loop-i.invariant.1, ap length none)
