-- A call's answer, state and buffer, by the equation of its outcome; and a record's byte in the first row.
-- Assumes nothing.
use Prim.Native.Nat.{ℕ, ◌+◌}
use Rattle.record.specs.Result.{Answer}
use Rattle.std.specs.Prelude.{Err}
use mathlib.Core.Path.{◌≡◌, sym, ◌∙◌, ap}
use mathlib.Core.Bool.{Bool, cond}
use mathlib.Core.List.{List}
use borrow.Author.Tests.{eq-eqb, ne_eqb}
use Rattle.record.specs.declared.Refusal.{Refusal}
use Rattle.record.specs.Header.{defeasible_letter, letter_of, head_count}
use Rattle.assembly.specs.State.{shape_of, heads_byte}
use Rattle.assembly.specs.Calls.{Called, Keeps, Meets}
use Rattle.assembly.proofs.Laws.Turn.{refused_call}

-- what a call left is what its outcome says
pub keeps : (o : Called) (r : Answer ℕ) (st out : List ℕ) → o ≡ record { answer = r; state = st; buffer = out } → Keeps o r st
keeps o r st out e = record { answer = sym (ap (λ (x : Called). x.answer) e); state = sym (ap (λ (x : Called). x.state) e) }

pub meets : (o : Called) (r : Answer ℕ) (st out : List ℕ) → o ≡ record { answer = r; state = st; buffer = out } → Meets o r st out
meets o r st out e =
    record { answer = sym (ap (λ (x : Called). x.answer) e); state = sym (ap (λ (x : Called). x.state) e); buffer = sym (ap (λ (x : Called). x.buffer) e) }

-- a refused call left what there was
pub refused-keeps : (o : Called) (r : Answer ℕ) (x : Refusal) (st out : List ℕ) → o ≡ refused_call x st out → r ≡ Err x → Keeps o r st
refused-keeps o r x st out e q = keeps o r st out (e ∙ ap (λ (y : Answer ℕ). record { answer = y; state = st; buffer = out }) (sym q))

pub refused-meets : (o : Called) (r : Answer ℕ) (x : Refusal) (st out : List ℕ) → o ≡ refused_call x st out → r ≡ Err x → Meets o r st out
refused-meets o r x st out e q = meets o r st out (e ∙ ap (λ (y : Answer ℕ). record { answer = y; state = st; buffer = out }) (sym q))

-- the byte of a defeasible rule's record, and of a strict one's
module _ (t : List ℕ) where
  pub heads-defeasible : letter_of t ≡ defeasible_letter → 127 + head_count t ≡ heads_byte (shape_of t)
  unfolding heads_byte shape_of
  heads-defeasible e = sym (ap (λ (d : Bool). cond d (127 + head_count t) (head_count t)) (eq-eqb (letter_of t) defeasible_letter e))

  pub heads-strict : (letter_of t ≡ defeasible_letter → ⊥) → head_count t ≡ heads_byte (shape_of t)
  unfolding heads_byte shape_of
  heads-strict e = sym (ap (λ (d : Bool). cond d (127 + head_count t) (head_count t)) (ne_eqb (letter_of t) defeasible_letter e))
