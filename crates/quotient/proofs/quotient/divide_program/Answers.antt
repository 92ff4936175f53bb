-- `quotient::divide_program` meets its contract: 9, or what the pass gives.
use Rattle.quotient.proofs.Laws.Quotient.{long, ascends, short-met, fitting, written-met}
use Rattle.quotient.proofs.quotient.divide_program.Goals as goal

pub invariant_of-set : goal.invariant_of-set
invariant_of-set c =
    let a = c.args in
    record {
      fits = long a.s.now a.k.now a.out.now c.requires (λ i. (c.type_inv.s i).fits) (λ i. (c.type_inv.k i).fits);
      ascends = ascends a.s.now a.k.now a.out.now c.requires (λ i. (c.type_inv.s i).fits) (λ i. (c.type_inv.k i).fits);
      are_bytes = λ i. (c.type_inv.k i).fits;
    }

pub returns-then-not-is_room : goal.returns-then-not-is_room
returns-then-not-is_room c w =
    let a = c.args in
    rw c.refuse.ensures
    (short-met a.s.now a.k.now a.out.now w (λ i. (c.type_inv.s i).fits) (λ i. (c.type_inv.k i).fits) _ c.is_room.ensures c.if-not-is_room.true)

pub write_quotient-requires : goal.write_quotient-requires
write_quotient-requires c =
    let a = c.args in
    fitting a.s.now a.k.now a.out.now c.requires (λ i. (c.type_inv.s i).fits) (λ i. (c.type_inv.k i).fits) _ c.is_room.ensures c.if-not-is_room.false

pub returns : goal.returns
returns c w =
    let a = c.args in
    let done = c.write_quotient.ensures in
    written-met a.s.now a.k.now a.out.now w (λ i. (c.type_inv.s i).fits) (λ i. (c.type_inv.k i).fits) _ c.is_room.ensures c.if-not-is_room.false _ _ done.value done.out_after
