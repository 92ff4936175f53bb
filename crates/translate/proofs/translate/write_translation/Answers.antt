-- `translate::write_translation` meets its contract: 9 for too short a buffer, or what the second pass writes.
-- Assumes nothing.
use Rattle.translate.proofs.Laws.Translate.{short-met, fitting, written-met}
use Rattle.translate.proofs.translate.write_translation.Goals as goal

pub returns-then-out-n : goal.returns-then-out-n
returns-then-out-n c w = rw c.refuse.ensures (short-met c.args.s.now c.args.out.now w _ c.measure_rules-n.ensures c.if-out-n.true)

pub write_rules-requires : goal.write_rules-requires
write_rules-requires c = fitting c.args.s.now c.args.out.now c.requires _ c.measure_rules-n.ensures c.if-out-n.false

pub returns : goal.returns
returns c w = written-met c.args.s.now c.args.out.now w _ c.measure_rules-n.ensures c.if-out-n.false _ c.write_rules.ensures
