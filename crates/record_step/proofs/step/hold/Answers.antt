-- `step::hold` meets its contract, case by case.
-- Assumes nothing.
use Rattle.std.proofs.Common.{sym, ap, ◌∙◌, Ok}
use Rattle.record.specs.Code.{next_of, found_of}
use Rattle.record_step.proofs.step.hold.Goals as goal

pub returns-in-Rule : goal.returns-in-Rule
unfolding found_of next_of
returns-in-Rule c = sym (ap (found_of c.args.held) c.in-Ok.is ∙ ap Ok (ap (next_of c.args.held) c.in-Rule.is))

pub returns-in-Override : goal.returns-in-Override
unfolding found_of next_of
returns-in-Override c = sym (ap (found_of c.args.held) c.in-Ok.is ∙ ap Ok (ap (next_of c.args.held) c.in-Override.is))

pub returns-in-Opposition : goal.returns-in-Opposition
unfolding found_of next_of
returns-in-Opposition c = sym (ap (found_of c.args.held) c.in-Ok.is ∙ ap Ok (ap (next_of c.args.held) c.in-Opposition.is))

pub returns-in-End : goal.returns-in-End
unfolding found_of next_of
returns-in-End c = sym (ap (found_of c.args.held) c.in-Ok.is ∙ ap Ok (ap (next_of c.args.held) c.in-End.is))

pub returns-in-Err : goal.returns-in-Err
unfolding found_of
returns-in-Err c = sym (ap (found_of c.args.held) c.in-Err.is)
