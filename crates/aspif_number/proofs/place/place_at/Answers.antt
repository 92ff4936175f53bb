-- `place::place_at`: the row of the kind and tag, and the number in it.
-- Assumes nothing.
use Rattle.std.proofs.Common.{ap, slice_index_or, ◌∙◌, ◌+◌, arith}
use Rattle.aspif_place.specs.Code.{row_of}
use Rattle.aspif_number.specs.Code.{shift}
use Rattle.aspif_number.proofs.Laws.Place.{row-le, place_in}
use Rattle.aspif_number.proofs.place.place_at.Goals as goal

pub overflow_mul-result : goal.overflow_mul-result
overflow_mul-result c = omega (arith, c.pick_row.ensures, row-le (slice_index_or c.args.s.now c.args.at 0) c.get_number-tag.result)

pub overflow_add-result : goal.overflow_add-result
overflow_add-result c = omega (arith, c.pick_row.ensures, row-le (slice_index_or c.args.s.now c.args.at 0) c.get_number-tag.result)

pub returns : goal.returns
returns c =
    let row = c.pick_row.ensures ∙ ap (λ t. shift + row_of (slice_index_or c.args.s.now c.args.at 0) t) c.get_number-tag.ensures in
    omega (arith, row, c.get_number-number.ensures, place_in c.args.s.now c.args.at)
