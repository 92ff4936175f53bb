-- `block::number_rules`: what the numbers of the records that are gone are made of is gathered.
-- Assumes nothing.
use Rattle.aspif_number.proofs.Laws.Block.{Numbering}
use Rattle.aspif_number.proofs.block.number_rules.Given as goal

abbrev pub invariant-loop : goal.invariant-loop
invariant-loop l = Numbering l.part l.bits l.rules l.initial.masks l.initial.numbers l.masks l.numbers l.at l.k l.counter
