-- `remainder::write_strict` meets its contract: a header, and the literals behind it.
use Rattle.std.proofs.Common.{◌+◌, ◌*◌, take, drop, arith}
use Rattle.buffer.proofs.Laws.Next.{write-behind}
use Rattle.record.specs.Header.{head_count, positive_count}
use Rattle.record_write.specs.Code.{header}
use Rattle.record_write.proofs.Laws.Stores.{length-header}
use Rattle.quotient_rule.specs.Code.{strict_bytes}
use Rattle.quotient_rule.proofs.Laws.Remainder.{length-strict-bytes}
use Rattle.quotient_rule.proofs.remainder.write_strict.Goals as goal

pub write_header-requires : goal.write_header-requires
write_header-requires c = omega (arith, c.requires.t_in_bounds_2, length-strict-bytes c.args.t.now c.requires.t_in_bounds)

pub copy-requires-clause-count_in_bounds_2 : goal.copy-requires-clause-count_in_bounds_2
copy-requires-clause-count_in_bounds_2 c =
    omega (arith, c.requires.t_in_bounds_2, length-strict-bytes c.args.t.now c.requires.t_in_bounds, c.write_header.auto.out)

pub returns-clause-value : goal.returns-clause-value
returns-clause-value c = omega (arith, length-strict-bytes c.args.t.now c.requires.t_in_bounds)

pub returns-clause-out_after : goal.returns-clause-out_after
unfolding strict_bytes
returns-clause-out_after c =
    let a = c.args in
    let s = a.t.now in
    let long = length-strict-bytes s c.requires.t_in_bounds in
    write-behind a.out.now a.to (header (head_count s) (positive_count s) 0) (a.to + 7)
    (take (5 * (head_count s + positive_count s)) (drop 7 s)) (omega (arith, long, c.requires.t_in_bounds_2))
    (omega (arith, length-header (head_count s) (positive_count s) 0)) c.write_header.ensures c.copy.ensures
