-- `options::mask_options` meets its contract: each option is passed or gathered.
use Rattle.std.proofs.Common.{◌+◌, ◌-◌, ◌*◌, ◌≡◌, sym, ◌∙◌, ap, length, bit_or, arith}
use Rattle.literal.specs.declared.Literal.TheVariants.{Signed}
use Rattle.literal.specs.Order.{key}
use Rattle.quotient_rule.specs.Code.{left_at}
use Rattle.quotient_rule.proofs.Laws.Left.{left-passed, left-taken, left-none}
use Rattle.check_clauses.specs.Code.{key_mask, union, literal_mask}
use Rattle.check_clauses.proofs.Laws.Union.{union-end}
use Rattle.check_clauses.proofs.Laws.Left.{mask-passed, mask-taken, left-nothing, left-gathered}
use Rattle.check_clauses.proofs.options.mask_options.Goals as goal
use Rattle.check_clauses.proofs.options.mask_options.Goals.{then-not-is_defeated, else-not-is_defeated}

pub loop-i-preserved : goal.loop-i-preserved
loop-i-preserved c =
    let t = c.args.t.now in
    let s = c.args.set.set in
    let n = c.args.heads in
    let l = c.loop-i in
    let lt = c.loop-i-test.true in
    let e = sym c.is_defeated.ensures in
    elim c.if-not-is_defeated.branch [
      | then-not-is_defeated w ↦
          let f = e ∙ w.if-not-is_defeated.true in
          let one = w.mask_literal-mask.ensures ∙ ap (λ o. key_mask s.bytes.now s.count (key (Signed o))) w.option_at-option.ensures in
          record {
            few = omega arith;
            found = omega (arith, ap length (left-taken t s.bytes.now s.count 7 n l.i lt f), l.invariant.found);
            gathered = rw w.mask-is (l.invariant.gathered ∙ mask-taken t s.bytes.now s.count n l.i l.mask lt f _ one);
          }
      | else-not-is_defeated w ↦
          let f = e ∙ w.if-not-is_defeated.false in
          record {
            few = omega arith;
            found = omega (arith, ap length (left-passed t s.bytes.now s.count 7 n l.i lt f), l.invariant.found);
            gathered = rw w.mask-is (l.invariant.gathered ∙ mask-passed t s.bytes.now s.count n l.i l.mask lt f);
          }
    ]

pub returns-then-count-eq0 : goal.returns-then-count-eq0
returns-then-count-eq0 c =
    let s = c.args.set.set in
    let none = left-none c.args.t.now s.bytes.now s.count (7 + 5 * c.loop-i.i) (c.args.heads - c.loop-i.i) (omega arith) in
    sym (left-nothing s.bytes.now s.count _ (omega (arith, ap length none, c.loop-i.invariant.found, c.if-count-eq0.true)))

pub returns : goal.returns
returns c =
    let s = c.args.set.set in
    let l = c.loop-i in
    let none = left-none c.args.t.now s.bytes.now s.count (7 + 5 * l.i) (c.args.heads - l.i) (omega arith) in
    let many : l.count ≡ length (left_at c.args.t.now s.bytes.now s.count 7 c.args.heads) = omega (arith, ap length none, l.invariant.found) in
    sym (left-gathered s.bytes.now s.count _ l.count l.mask many (λ e. c.if-count-eq0.false (omega (arith, many, e)))
    (sym (l.invariant.gathered ∙ ap (λ ls. bit_or l.mask (union (literal_mask s.bytes.now s.count) ls)) none ∙ union-end (literal_mask s.bytes.now s.count) l.mask)))
