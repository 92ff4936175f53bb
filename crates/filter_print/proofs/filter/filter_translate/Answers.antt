-- `filter::filter_translate` meets its contract: of what came, the translation's bytes are printed, or the R: record of the
-- refusal, whose place has room in it.
-- Assumes nothing.
use Rattle.std.proofs.Common.{arith, take, sym, ◌∙◌, length-take-le}
use lib.ListN.{length-take}
use Rattle.filter_print.proofs.Laws.Filter.{translated-place, prints-length, prints-refusal}
use Rattle.filter_print.proofs.filter.filter_translate.Goals as goal

pub slice_bounds-translate_source-end : goal.slice_bounds-translate_source-end
slice_bounds-translate_source-end c = sym (length-take-le _ _ (omega arith))

pub returns-in-Ok : goal.returns-in-Ok
returns-in-Ok c =
    let a = c.args in
    prints-length (take a.got a.input.now) a.out.now (omega (arith, length-take a.got a.input.now)) (omega arith) _ _ _ c.translate_source.ensures c.in-Ok.is

pub write_refusal-requires-clause-place_bound : goal.write_refusal-requires-clause-place_bound
write_refusal-requires-clause-place_bound c = translated-place _ _ _ (sym c.translate_source.ensures.answer ∙ c.in-Err.is)

pub write_refusal-requires-clause-in_bounds : goal.write_refusal-requires-clause-in_bounds
write_refusal-requires-clause-in_bounds c = omega (arith, c.translate_source.auto.out)

pub returns-in-Err : goal.returns-in-Err
returns-in-Err c =
    let a = c.args in
    prints-refusal (take a.got a.input.now) a.out.now (omega (arith, length-take a.got a.input.now)) (omega arith) _ _ _ _ c.translate_source.ensures
    c.in-Err.is c.write_refusal.ensures
