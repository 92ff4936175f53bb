-- `remainder::measure_remainder` meets its contract, test by test.
use Rattle.std.proofs.Common.{sym, ◌∙◌, ap, length, arith}
use Rattle.record.specs.Header.{head_count}
use Rattle.quotient_rule.specs.Code.{left_at}
use Rattle.quotient_rule.proofs.Laws.Left.{left-few}
use Rattle.quotient_rule.proofs.Laws.Remainder.{remainder-removed, remainder-defeasible, remainder-strict, length-strict-bytes, length-option-bytes, option-bytes-none}
use Rattle.quotient_rule.proofs.remainder.measure_remainder.Goals as goal

pub returns-then-is_removed : goal.returns-then-is_removed
returns-then-is_removed c =
    let s = c.args.set in
    sym (ap length (remainder-removed c.args.t.now s.bytes.now s.count (sym c.is_removed.ensures ∙ c.if-is_removed.true)))

pub returns-then-t-ne68 : goal.returns-then-t-ne68
returns-then-t-ne68 c =
    let t = c.args.t.now in
    let s = c.args.set in
    sym (ap length (remainder-strict t s.bytes.now s.count (sym c.is_removed.ensures ∙ c.if-is_removed.false) c.if-t-ne68.true)
    ∙ length-strict-bytes t c.requires)

pub returns-then-left-eq0 : goal.returns-then-left-eq0
returns-then-left-eq0 c =
    let t = c.args.t.now in
    let s = c.args.set in
    sym (ap length (remainder-defeasible t s.bytes.now s.count (sym c.is_removed.ensures ∙ c.if-is_removed.false) c.if-t-ne68.false
    ∙ option-bytes-none t _ (sym c.count_left-left.ensures ∙ c.if-left-eq0.true)))

pub overflow_add-result-2 : goal.overflow_add-result-2
overflow_add-result-2 c =
    let s = c.args.set in
    omega (arith, c.count_left-left.ensures, left-few c.args.t.now s.bytes.now s.count 7 (head_count c.args.t.now))

pub overflow_mul-result-2 : goal.overflow_mul-result-2
overflow_mul-result-2 c =
    let s = c.args.set in
    omega (arith, c.count_left-left.ensures, left-few c.args.t.now s.bytes.now s.count 7 (head_count c.args.t.now))

pub overflow_add-result-3 : goal.overflow_add-result-3
overflow_add-result-3 c =
    let s = c.args.set in
    omega (arith, c.count_left-left.ensures, left-few c.args.t.now s.bytes.now s.count 7 (head_count c.args.t.now))

pub returns : goal.returns
returns c =
    let t = c.args.t.now in
    let s = c.args.set in
    let found = c.count_left-left.ensures in
    let long = ap length (remainder-defeasible t s.bytes.now s.count (sym c.is_removed.ensures ∙ c.if-is_removed.false) c.if-t-ne68.false) in
    omega (
      arith,
      found,
      long,
      length-option-bytes t c.requires (left_at t s.bytes.now s.count 7 (head_count t)) (λ e. c.if-left-eq0.false (found ∙ e)),
    )
