-- How code reads a run of rules.
-- In order: what ends a run of rules; a record of a run; counts with so many rules; the run.
-- Assumes nothing.
use Rattle.std.specs.Prelude.{ℕ, ◌*◌, ◌≤◌, ◌≡◌, List, length, drop, Result, Ok, Err}
use Rattle.literal.specs.declared.Limits.{Limits}
use Rattle.record.specs.declared.Step.{Step}
use Rattle.record.specs.declared.Held.{Held}
use Rattle.record.specs.Result.{Answer}
use Rattle.record.specs.Reading.{Entry, record_at}
use Rattle.record.specs.Code.{step_of, total, left}
use Rattle.record_step.specs.Code.{OtherLeft}
use Rattle.record_read.specs.declared.Stop.{Stop}
use Rattle.record_read.specs.declared.Rules.{Rules}

-- the record that ends a run of rules is the end, is neither that nor a rule's, or is refused
abbrev pub StopAt : Limits → List ℕ → Answer Entry → Stop → Type 0
StopAt F t e Stop.End = step_of e ≡ Ok Step.End
StopAt F t e Stop.Other = OtherLeft F t
StopAt F t e (Stop.Refused x) = step_of e ≡ Err x

-- the record is a right rule's, as long as that, or ends the run
abbrev pub RunAt : Limits → List ℕ → Answer Entry → Result ℕ Stop → Type 0
RunAt F t e (Ok size) = step_of e ≡ Ok (Step.Rule size)
RunAt F t e (Err x) = StopAt F t e x

-- h, with n rules
abbrev pub with_rules : Held → ℕ → Held
with_rules h n = record { rules = n; overrides = h.overrides; oppositions = h.oppositions }

-- from `from` on, where h was held, rules alone were read: reading comes from where they end, with so many of them, to what it comes to from
-- `from` on; each item that is held took six bytes or more
pub record Stopped (F : Limits) (s : List ℕ) (from : ℕ) (h : Held) (r : Rules) : Type 0 where
  pub later : from ≤ r.at
  pub within : r.at ≤ length s
  pub few : 6 * total (with_rules h r.rules) ≤ r.at
  pub same : left F s from h ≡ left F s r.at (with_rules h r.rules)
  pub ends : StopAt F (drop r.at s) (record_at F (with_rules h r.rules) (drop r.at s)) r.stop
