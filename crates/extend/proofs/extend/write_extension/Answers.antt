-- `extend::write_extension` meets its contract: the marks are gathered, and the record is written where there is room.
use Rattle.std.proofs.Common.{refl, ◌∙◌, ap, take, arith}
use Rattle.std.proofs.lemmas.List.{length-take-le}
use Rattle.buffer.specs.Write.{write}
use Rattle.extend.specs.Code.{joined}
use Rattle.extend.proofs.Laws.Outcome.{extending-long, extending-ascends, extending-fitting, extending-short, extending-written}
use Rattle.extend.proofs.extend.write_extension.Goals as goal

pub invariant_of-set : goal.invariant_of-set
invariant_of-set c =
    let a = c.args in
    record {
      fits = extending-long a.s.now a.k.now a.count c.requires (λ i. (c.type_inv.s i).fits) (λ i. (c.type_inv.k i).fits);
      ascends = extending-ascends a.s.now a.k.now a.count c.requires (λ i. (c.type_inv.s i).fits) (λ i. (c.type_inv.k i).fits);
      are_bytes = λ i. (c.type_inv.k i).fits;
    }

pub returns-then-out-size : goal.returns-then-out-size
returns-then-out-size c w =
    let a = c.args in
    rw c.refuse.ensures
    (extending-short a.s.now a.k.now a.count w (λ i. (c.type_inv.s i).fits) (λ i. (c.type_inv.k i).fits) _ _ _ refl c.gather_marks-n.ensures
    a.out.now c.if-out-size.true)

pub write_joined-requires-clause-fitting : goal.write_joined-requires-clause-fitting
write_joined-requires-clause-fitting c =
    let a = c.args in
    extending-fitting a.s.now a.k.now a.count c.requires (λ i. (c.type_inv.s i).fits) (λ i. (c.type_inv.k i).fits) _ _ _ refl c.gather_marks-n.ensures

pub returns : goal.returns
returns c w =
    let a = c.args in
    let m = c.gather_marks-n.ensures c.requires.file in
    let n = c.gather_marks-n.result in
    let keys = c.gather_marks-n.new.keys in
    extending-written a.s.now a.k.now a.count w (λ i. (c.type_inv.s i).fits) (λ i. (c.type_inv.k i).fits) _ _ _ refl c.gather_marks-n.ensures
    a.out.now _ c.if-out-size.false
    (c.write_joined.ensures ∙ ap (λ k. write a.out.now 0 (joined a.k.now a.count (take n keys) k)) (length-take-le n keys (omega (arith, m.count, m.same))))
