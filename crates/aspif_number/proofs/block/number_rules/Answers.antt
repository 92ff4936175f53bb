-- `block::number_rules`: the next record's numbers are gathered behind the others, and at the end all are finished.
-- Assumes nothing.
use Rattle.std.proofs.Common.{arith}
use borrow.Author.Rules.{part_to_end}
use Rattle.aspif_number.proofs.Laws.Block.{numbering_start, numbering-few, numbering-next, numbering-room, numbering-end}
use Rattle.aspif_number.proofs.block.number_rules.Goals as goal

pub loop-init : goal.loop-init
loop-init c = let a = c.args in numbering_start a.part.now a.bits.now a.rules a.masks.now a.numbers.now

-- there is room for the next record's numbers
pub gather_run-requires-clause-count_in_bounds_2 : goal.gather_run-requires-clause-count_in_bounds_2
gather_run-requires-clause-count_in_bounds_2 c =
    let few = numbering-few c.loop.invariant c.requires.records (omega arith) _ (part_to_end c.args.part.now c.loop.at) in
    omega (arith, few, c.count_literals-count.ensures.value)

pub gather_run-requires-clause-count_in_bounds_3 : goal.gather_run-requires-clause-count_in_bounds_3
gather_run-requires-clause-count_in_bounds_3 c =
    let few = numbering-few c.loop.invariant c.requires.records (omega arith) _ (part_to_end c.args.part.now c.loop.at) in
    omega (arith, few, c.count_literals-count.ensures.value)

pub overflow_add-k : goal.overflow_add-k
overflow_add-k c =
    let few = numbering-few c.loop.invariant c.requires.records (omega arith) _ (part_to_end c.args.part.now c.loop.at) in
    omega (arith, few, c.count_literals-count.ensures.value)

pub loop-preserved : goal.loop-preserved
loop-preserved c =
    numbering-next c.loop.invariant c.requires.records (omega arith) _ (part_to_end c.args.part.now c.loop.at) _ c.count_literals-count.ensures.value _ _
    c.gather_run.auto.masks c.gather_run.auto.numbers c.gather_run.ensures _ c.record_size-at.ensures

pub finish_numbers-requires-clause-count_in_bounds : goal.finish_numbers-requires-clause-count_in_bounds
finish_numbers-requires-clause-count_in_bounds c =
    (numbering-room c.loop.invariant c.requires.records c.requires.rules_in_bounds c.requires.rules_in_bounds_2).0

pub finish_numbers-requires-clause-count_in_bounds_2 : goal.finish_numbers-requires-clause-count_in_bounds_2
finish_numbers-requires-clause-count_in_bounds_2 c =
    (numbering-room c.loop.invariant c.requires.records c.requires.rules_in_bounds c.requires.rules_in_bounds_2).1

pub returns-clause-front : goal.returns-clause-front
returns-clause-front c =
    let room = numbering-room c.loop.invariant c.requires.records c.requires.rules_in_bounds c.requires.rules_in_bounds_2 in
    (numbering-end c.loop.invariant c.requires.records (omega arith) room.1 _ c.finish_numbers.auto.numbers c.finish_numbers.ensures).1
