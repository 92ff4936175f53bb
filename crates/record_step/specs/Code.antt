-- What code finds before a record's literals, where a record comes to `e`, and what a rule's record comes to by them.
-- In order: how a record starts; a step that is told; literals that are left to be read; a record that is neither a rule's nor the end;
-- either of the three; what a rule's record comes to by its literals.
-- Assumes nothing.
use Rattle.std.specs.Prelude.{ℕ, ◌≤◌, ◌≡◌, Bool, true, false, cond, List, eqb, length, Ok, Err}
use Rattle.literal.specs.declared.Limits.{Limits}
use Rattle.record.specs.declared.Step.{Step}
use Rattle.record.specs.Header.{head_count, positive_count, naf_count}
use Rattle.record.specs.declared.Reason.TheVariants.{HeadWrong}
use Rattle.record.specs.Refusal.{refusal}
use Rattle.record.specs.Result.{Answer}
use Rattle.record.specs.Reading.{Mark, RuleMark, OverrideMark, OppositionMark, EndMark, NoMark, Entry, body_at, mark_at}
use Rattle.record.specs.Code.{signed_kinds, step_of}
use Rattle.record_step.specs.declared.Opening.{Opening}
use Rattle.record_step.specs.declared.Front.{Front}

-- how a record with this mark starts, as far as rules go
unfoldable pub opening : Mark → Opening
opening (RuleMark d) = Opening.Rule d
opening OverrideMark = Opening.Other
opening OppositionMark = Opening.Other
opening EndMark = Opening.End
opening NoMark = Opening.Other

-- the header is right, and the record comes to what its literals do; a defeasible rule's is met where the form has such
pub record LiteralsLeft (F : Limits) (t : List ℕ) (e : Answer Entry) (d : Bool) : Type 0 where
  pub whole : 7 ≤ length t
  pub step : step_of e ≡ step_of (body_at F d t (head_count t) (positive_count t) (naf_count t))
  pub form : F.defeasible ≡ false → d ≡ false

-- there is a mark, and it is neither a rule's nor the end's
pub record OtherLeft (F : Limits) (t : List ℕ) : Type 0 where
  pub whole : 2 ≤ length t
  pub other : opening (mark_at F t) ≡ Opening.Other

-- the record's refusal, the end, or either of these two
abbrev pub FrontAt : Limits → List ℕ → Answer Entry → Answer Front → Type 0
FrontAt F t e (Err x) = step_of e ≡ Err x
FrontAt F t e (Ok Front.End) = step_of e ≡ Ok Step.End
FrontAt F t e (Ok (Front.Literals d)) = LiteralsLeft F t e d
FrontAt F t e (Ok Front.Other) = OtherLeft F t

-- how long a rule's record of so many bytes is, by its literals: a defeasible head is not empty, and its kinds are signed
unfoldable pub judged : Answer (Unit {0}) → Bool → List ℕ → ℕ → ℕ → Answer ℕ
judged (Err x) d t h size = Err x
judged (Ok tt) false t h size = Ok size
judged (Ok tt) true t h size = cond (eqb h 0) (Err (refusal HeadWrong 0)) (cond (signed_kinds t 7 h) (Ok size) (Err (refusal HeadWrong 0)))
