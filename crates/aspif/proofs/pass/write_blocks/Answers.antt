-- `pass::write_blocks`: the next block's records are whole and its lines have room; they are written behind the others.
-- Assumes nothing.
use Rattle.std.proofs.Common.{ap, length, arith}
use borrow.Author.Rules.{part_to_end}
use Rattle.record_walk.proofs.Laws.Walk.{walk-open, pass-start}
use Rattle.aspif.proofs.Laws.Pass.{block-fits}
use Rattle.aspif.proofs.Laws.Blocks.{next-block, written_none, written-block, written_all}
use Rattle.aspif.proofs.pass.write_blocks.Goals as goal

pub loop-left-init : goal.loop-left-init
loop-left-init c =
    let a = c.args in
    pass-start a.s.now _ (written_none a.numbering.now a.out.now a.to a.rules)

pub slice_bounds-write_block-count : goal.slice_bounds-write_block-count
slice_bounds-write_block-count c = omega (arith, walk-open (c.loop-left.invariant c.requires).walk)

pub slice_bounds-write_block-start : goal.slice_bounds-write_block-start
slice_bounds-write_block-start c = omega (arith, walk-open (c.loop-left.invariant c.requires).walk)

pub write_block-made-requires-clause-records : goal.write_block-made-requires-clause-records
write_block-made-requires-clause-records c =
    let b = next-block c.requires (c.loop-left.invariant c.requires) c.min-count.result (omega arith) _ (part_to_end c.args.s.now c.loop-left.at) in
    b.records

pub write_block-made-requires-clause-rooms : goal.write_block-made-requires-clause-rooms
write_block-made-requires-clause-rooms c =
    let b = next-block c.requires (c.loop-left.invariant c.requires) c.min-count.result (omega arith) _ (part_to_end c.args.s.now c.loop-left.at) in
    b.rooms

pub write_block-made-requires-clause-rules_in_bounds : goal.write_block-made-requires-clause-rules_in_bounds
write_block-made-requires-clause-rules_in_bounds c =
    let a = c.loop-left.invariant c.requires in
    let b = next-block c.requires (c.loop-left.invariant c.requires) c.min-count.result (omega arith) _ (part_to_end c.args.s.now c.loop-left.at) in
    omega (arith, block-fits c.args.numbering.now a.gone b.block _ b.walk b.lines, c.requires.asked.fits, a.made.lines.next, c.loop-left.auto.out)

pub overflow_add-at : goal.overflow_add-at
overflow_add-at c =
    let b = next-block c.requires (c.loop-left.invariant c.requires) c.min-count.result (omega arith) _ (part_to_end c.args.s.now c.loop-left.at) in
    omega (
      arith,
      walk-open b.walk,
      c.write_block-made.ensures.size_value,
      ap length c.requires.bytes,
      c.requires.asked.counted.numberable.short,
    )

pub loop-left-preserved : goal.loop-left-preserved
loop-left-preserved c w =
    let a = c.loop-left.invariant w in
    let made = c.write_block-made.ensures in
    written-block a (next-block w a c.min-count.result (omega arith) _ (part_to_end c.args.s.now c.loop-left.at)) (omega (arith, w.asked.fits))
    (omega arith) made.size_value made.wrote

pub returns : goal.returns
returns c w = written_all (c.loop-left.invariant w) c.loop-left-test.false w.asked.counted.count
