-- What the check finds, from what reading the program and the set gives and the room that there is; and what meets it.
-- In order: 9, and the finding; a refusal, and both as read; the answers that meet a refusal, and a finding. Assumes nothing.
use Prim.Native.Nat.{ℕ, ◌≤◌, ◌<◌}
use Rattle.std.specs.Prelude.{Ok, Err}
use mathlib.Core.Path.{◌≡◌, sym, ◌∙◌, ap}
use mathlib.Core.List.{List}
use lib.Dec.{ltb}
use lib.ListN.{length}
use borrow.Author.Tests.{lt-ltb, le-ltb}
use Rattle.buffer.specs.Write.{write}
use Rattle.literal.specs.declared.Limits.{Limits}
use Rattle.literal.specs.declared.Literal.{Literal}
use Rattle.semantics.specs.Rule.{Program}
use Rattle.semantics.specs.Verdict.{Finding, finding}
use Rattle.record.specs.declared.Reason.TheVariants.{OutputShort}
use Rattle.record.specs.declared.Refusal.{Refusal}
use Rattle.record.specs.Refusal.{refusal}
use Rattle.record.specs.Result.{Answer}
use Rattle.record.specs.Reading.{parsed}
use Rattle.record.proofs.Laws.Result.{refuse-if-true, refuse-if-false}
use Rattle.set.specs.Reading.{parsed_set}
use Rattle.inputs.specs.Code.{both_read}
use Rattle.inputs.proofs.Laws.Inputs.{inputs-refused, inputs-given}
use Rattle.check_set.specs.declared.Verdict.{Verdict}
use Rattle.check_set.specs.Verdict.{verdict_of, witness}
use Rattle.check_set.specs.Check.{found_of, found, Checked, checked_of}
use Rattle.check_set.specs.Meets.{MeetsCheck}

module _ (p : Program) (ls : List Literal) (k out : List ℕ) where
  -- 9
  pub found-short : length out < length k → found_of p ls k out ≡ Err (refusal OutputShort 0)
  found-short h = refuse-if-true (ltb (length out) (length k)) (refusal OutputShort 0) _ (lt-ltb (length out) (length k) h)

  pub found-finding : length k ≤ length out → found_of p ls k out ≡ Ok (finding p ls)
  found-finding h = refuse-if-false (ltb (length out) (length k)) (refusal OutputShort 0) _ (le-ltb (length out) (length k) h)

module _ (F : Limits) (s k out : List ℕ) where
  -- a refusal of the program or the set
  pub found-refused : (x : Refusal) → both_read F F.checked s k ≡ Err x → found F s k out ≡ Err x
  unfolding found
  found-refused x e = inputs-refused F F.checked s k (λ p ls. found_of p ls k out) x e

  -- both are read
  pub found-read : (p : Program) → parsed F s ≡ Ok p → (ls : List Literal) → parsed_set F F.checked k ≡ Ok ls
      → found F s k out ≡ found_of p ls k out
  unfolding found
  found-read p read ls held = inputs-given F F.checked s k (λ p ls. found_of p ls k out) p read ls held

module _ (q : Answer Finding) (out : List ℕ) where
  -- a refusal is answered, and the output stays
  pub meets-refusal : (x : Refusal) → q ≡ Err x → MeetsCheck (checked_of q out) (Err x) out
  unfolding checked_of
  meets-refusal x e =
      let same = ap (λ (f : Answer Finding). checked_of f out) (sym e) in
      record { answer = ap (λ (w : Checked). w.answer) same; buffer = ap (λ (w : Checked). w.buffer) same }

  -- a finding's verdict is answered, and its witness written
  pub meets-finding : (f : Finding) → q ≡ Ok f → {r : Verdict} {end : List ℕ} → r ≡ verdict_of f → end ≡ write out 0 (witness f)
      → MeetsCheck (checked_of q out) (Ok r) end
  unfolding checked_of
  meets-finding f e told done =
      let same = ap (λ (g : Answer Finding). checked_of g out) (sym e) in
      record { answer = ap Ok told ∙ ap (λ (w : Checked). w.answer) same; buffer = done ∙ ap (λ (w : Checked). w.buffer) same }
