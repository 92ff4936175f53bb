-- `restrict::restrict` meets its contract: the refusal of reading, 9 for too short a buffer, or the literals kept behind their number.
-- Assumes nothing.
use Rattle.std.proofs.Common.{arith, sym, ◌∙◌}
use Rattle.std.proofs.lemmas.Result.{err_from_is_err_and}
use Rattle.restrict.proofs.Laws.Restrict.{read_whole, read_held, restricted-refused, restricted-short, restricted-written}
use Rattle.restrict.proofs.restrict.restrict.Goals as goal

pub returns-in_err-n : goal.returns-in_err-n
returns-in_err-n c =
    let a = c.args in
    let p = err_from_is_err_and c.from_residual.result c.from_residual.ensures.1 in
    rw (p.1, p.2) (restricted-refused a.lim a.k.now a.out.now (sym c.read_set.ensures ∙ c.in_err-n.was))

pub count_front-held-requires : goal.count_front-held-requires
count_front-held-requires c =
    omega (arith, read_whole c.args.lim c.args.k.now (λ i. (c.type_inv.k i).fits) _ (sym c.read_set.ensures ∙ c.in_ok-n.was))

pub overflow_mul-bytes : goal.overflow_mul-bytes
overflow_mul-bytes c =
    let held = read_held c.args.lim c.args.k.now (λ i. (c.type_inv.k i).fits) _ _ (sym c.read_set.ensures ∙ c.in_ok-n.was) c.count_front-held.ensures in
    omega (arith, held.counted)

pub overflow_add-size : goal.overflow_add-size
overflow_add-size c =
    let held = read_held c.args.lim c.args.k.now (λ i. (c.type_inv.k i).fits) _ _ (sym c.read_set.ensures ∙ c.in_ok-n.was) c.count_front-held.ensures in
    omega (arith, held.counted)

pub returns-then-out-size : goal.returns-then-out-size
returns-then-out-size c =
    let a = c.args in
    let held = read_held a.lim a.k.now (λ i. (c.type_inv.k i).fits) _ _ (sym c.read_set.ensures ∙ c.in_ok-n.was) c.count_front-held.ensures in
    rw c.refuse.ensures (restricted-short a.lim a.k.now a.out.now held c.if-out-size.true)

pub overflow_cast-held : goal.overflow_cast-held
overflow_cast-held c =
    let held = read_held c.args.lim c.args.k.now (λ i. (c.type_inv.k i).fits) _ _ (sym c.read_set.ensures ∙ c.in_ok-n.was) c.count_front-held.ensures in
    omega (arith, held.counted)

pub copy-requires-clause-count_in_bounds : goal.copy-requires-clause-count_in_bounds
copy-requires-clause-count_in_bounds c =
    let held = read_held c.args.lim c.args.k.now (λ i. (c.type_inv.k i).fits) _ _ (sym c.read_set.ensures ∙ c.in_ok-n.was) c.count_front-held.ensures in
    omega (arith, held.whole, held.few)

pub returns : goal.returns
returns c =
    let a = c.args in
    let held = read_held a.lim a.k.now (λ i. (c.type_inv.k i).fits) _ _ (sym c.read_set.ensures ∙ c.in_ok-n.was) c.count_front-held.ensures in
    restricted-written a.lim a.k.now a.out.now held c.if-out-size.false c.write_set_header.ensures c.copy.ensures
