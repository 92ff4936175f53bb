-- `witness::write_picked` meets its contract: a literal is five bytes or none.
use Rattle.std.proofs.Common.{◌≡◌, ◌+◌, ◌*◌, ◌-◌, sym, ◌∙◌, ap, length, take, drop, length-drop, arith}
use Rattle.std.proofs.lemmas.List.{length-take-le}
use Rattle.buffer.specs.Write.{write}
use Rattle.buffer.proofs.Laws.Write.{write-nil}
use Rattle.check_witness.specs.Code.{picked_bytes}
use Rattle.check_witness.proofs.Laws.Witness.{length-picked-one, picked-end, picked-step, length-picked-record, picked-written}
use Rattle.check_witness.proofs.witness.write_picked.Goals as goal

pub overflow_add-to : goal.overflow_add-to
overflow_add-to c =
    let l = c.loop-i in
    let s = c.args.set in
    let n = c.args.n in
    let bs = take 5 (drop (4 + 5 * l.i) s.now) in
    omega (
      arith,
      c.copy_picked-to.ensures.size,
      length-picked-one c.args.model (n - 1 - l.i) bs,
      length-take-le 5 (drop (4 + 5 * l.i) s.now) (omega (arith, length-drop (4 + 5 * l.i) s.now, c.requires.set_in_bounds, c.loop-i-test.true)),
      l.invariant.most,
      c.requires.few,
      c.loop-i-test.true,
    )

pub loop-i-preserved : goal.loop-i-preserved
loop-i-preserved c =
    let l = c.loop-i in
    let s = c.args.set in
    let n = c.args.n in
    let m = l.invariant in
    let bs = take 5 (drop (4 + 5 * l.i) s.now) in
    let done = c.copy_picked-to.ensures in
    let few = length-picked-one c.args.model (n - 1 - l.i) bs in
    let five = length-take-le 5 (drop (4 + 5 * l.i) s.now) (omega (arith, length-drop (4 + 5 * l.i) s.now, c.requires.set_in_bounds, c.loop-i-test.true)) in
    let w = picked-step c.args.model s.now n l.i l.to l.out _ c.copy_picked-to.result c.loop-i-test.true
    (omega (arith, m.most, c.requires.out_in_bounds, l.auto.out, c.loop-i-test.true)) done.size done.bytes in
    record {
      most = omega (arith, m.most, done.size, few, five);
      least = omega (arith, m.least);
      written = m.written ∙ w.0;
      long = omega (arith, m.long, w.1);
    }

pub returns : goal.returns
returns c =
    let s = c.args.set in
    let n = c.args.n in
    let l = c.loop-i in
    let none = picked-end c.args.model s.now (4 + 5 * l.i) (n - l.i) (omega arith) in
    let long : l.to ≡ 4 + length (picked_bytes c.args.model s.now 4 n) = omega (arith, l.invariant.long, ap length none) in
    let done = sym (l.invariant.written ∙ ap (write l.out l.to) none ∙ write-nil l.out l.to) in
    record {
      size = length-picked-record c.args.model s.now n l.to long;
      bytes = picked-written c.args.model s.now n l.to long c.args.out.now l.out _ (omega (arith, c.requires.out_in_bounds)) done c.write_set_header.ensures;
    }
