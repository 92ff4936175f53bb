-- `read::read_rules` meets its contract: a run ends where a record is no right rule's, and each rule leaves reading as it was.
-- Assumes nothing.
use Rattle.std.proofs.Common.{arith, ◌+◌, ◌-◌, ◌≡◌, ◌≤◌, length, take, drop, Ok}
use borrow.Author.Rules.{part_to_end}
use Rattle.record.specs.declared.Step.{Step}
use Rattle.record.specs.declared.Held.{Held}
use Rattle.record.specs.Reading.{record_at}
use Rattle.record.specs.Code.{step_of}
use Rattle.record_read.proofs.Laws.Run.{rule-sized, going_next, going-stopped, run-rule, run-stop}
use Rattle.record_read.proofs.read.read_rules.Goals as goal

-- the record is a rule's
step : (c : goal.In-Ok) (h : Held) → h.rules ≡ c.loop-size.rules
    → step_of (record_at c.args.lim h (take (length c.args.s.now - c.loop-size.at) (drop c.loop-size.at c.args.s.now))) ≡ Ok (Step.Rule c.in-Ok.size)
step c h e = run-rule _ _ _ _ _ c.in-Ok.is (c.read_record.ensures h e)

sized : (c : goal.In-Ok) → (6 ≤ c.in-Ok.size) × (c.loop-size.at + c.in-Ok.size ≤ length c.args.s.now)
sized c = rule-sized c.loop-size.invariant _ (part_to_end c.args.s.now c.loop-size.at) _ (step c)

pub overflow_add-at : goal.overflow_add-at
overflow_add-at c = omega (arith, sized c)

pub loop-size-smaller : goal.loop-size-smaller
loop-size-smaller c = omega (arith, sized c)

pub loop-size-preserved : goal.loop-size-preserved
loop-size-preserved c = going_next c.loop-size.invariant _ (part_to_end c.args.s.now c.loop-size.at) _ (step c)

pub returns-in-Err : goal.returns-in-Err
returns-in-Err c =
    going-stopped c.args.held c.loop-size.invariant c.requires.held_bound _ (part_to_end c.args.s.now c.loop-size.at) _
    (λ h e. run-stop _ _ _ _ _ c.in-Err.is (c.read_record.ensures h e))
