-- `remainder::write_remainder` meets its contract, test by test.
use Rattle.std.proofs.Common.{sym, ◌∙◌, ap, length, arith}
use Rattle.buffer.specs.Write.{write}
use Rattle.buffer.proofs.Laws.Write.{write-nil}
use Rattle.quotient_rule.proofs.Laws.Remainder.{remainder-removed, remainder-defeasible, remainder-strict}
use Rattle.quotient_rule.proofs.remainder.write_remainder.Goals as goal

pub returns-then-is_removed : goal.returns-then-is_removed
returns-then-is_removed c =
    let a = c.args in
    let none = remainder-removed a.t.now a.set.bytes.now a.set.count (sym c.is_removed.ensures ∙ c.if-is_removed.true) in
    record { value = sym (ap length none); out_after = sym (ap (write a.out.now a.to) none ∙ write-nil a.out.now a.to) }

pub write_options-requires-clause-t_in_bounds_2 : goal.write_options-requires-clause-t_in_bounds_2
write_options-requires-clause-t_in_bounds_2 c =
    let a = c.args in
    let same = remainder-defeasible a.t.now a.set.bytes.now a.set.count (sym c.is_removed.ensures ∙ c.if-is_removed.false) c.if-t-eq68.true in
    omega (arith, c.requires.t_in_bounds_2, ap length same)

pub returns-then-t-eq68 : goal.returns-then-t-eq68
returns-then-t-eq68 c =
    let a = c.args in
    let same = remainder-defeasible a.t.now a.set.bytes.now a.set.count (sym c.is_removed.ensures ∙ c.if-is_removed.false) c.if-t-eq68.true in
    record {
      value = c.write_options.ensures.value ∙ sym (ap length same);
      out_after = c.write_options.ensures.out_after ∙ sym (ap (write a.out.now a.to) same);
    }

pub write_strict-requires-clause-t_in_bounds_2 : goal.write_strict-requires-clause-t_in_bounds_2
write_strict-requires-clause-t_in_bounds_2 c =
    let a = c.args in
    let same = remainder-strict a.t.now a.set.bytes.now a.set.count (sym c.is_removed.ensures ∙ c.if-is_removed.false) c.if-t-eq68.false in
    omega (arith, c.requires.t_in_bounds_2, ap length same)

pub returns : goal.returns
returns c =
    let a = c.args in
    let same = remainder-strict a.t.now a.set.bytes.now a.set.count (sym c.is_removed.ensures ∙ c.if-is_removed.false) c.if-t-eq68.false in
    record {
      value = c.write_strict.ensures.value ∙ sym (ap length same);
      out_after = c.write_strict.ensures.out_after ∙ sym (ap (write a.out.now a.to) same);
    }
