-- What an operation that writes answers and leaves in the lent buffer: a refusal, a result, or 9; where a refusal lies; what meets
-- each.
-- Assumes nothing.
use Prim.Native.Nat.{ℕ, ◌≤◌, ◌<◌}
use Rattle.std.specs.Prelude.{Ok, Err}
use native.Mathlib.Omega.{arith}
use mathlib.Core.Path.{◌≡◌, refl, sym, ◌∙◌, ap, subst}
use mathlib.Core.Bool.{Bool, true, false}
use mathlib.Core.List.{List}
use lib.Dec.{ltb}
use lib.ListN.{length}
use borrow.Author.Tests.{le-ltb, lt-ltb}
use Rattle.buffer.specs.Write.{write}
use Rattle.record.specs.declared.Reason.TheVariants.{OutputShort}
use Rattle.record.specs.declared.Refusal.{Refusal}
use Rattle.record.specs.Refusal.{refusal}
use Rattle.record.specs.Result.{Answer, Outcome, delivered}
use Rattle.record.specs.Meets.{Meets}
use Rattle.record.proofs.Laws.Places.{Placed}

-- a refusal leaves the buffer as it came
pub delivered-refused : (x : Refusal) (out : List ℕ) → delivered (Err x) out ≡ record { answer = Err x; buffer = out }
unfolding delivered
delivered-refused x out = refl

module _ (bs out : List ℕ) where
  choose : Bool → Outcome
  choose b =
      elim b [
        | true ↦ record { answer = Err (refusal OutputShort 0); buffer = out }
        | false ↦ record { answer = Ok (length bs); buffer = write out 0 bs }
      ]

  -- a buffer that is long enough holds the result at its start
  pub delivered-fits : length bs ≤ length out → delivered (Ok bs) out ≡ record { answer = Ok (length bs); buffer = write out 0 bs }
  unfolding delivered choose
  delivered-fits h = ap choose (le-ltb (length out) (length bs) h)

  -- 9: one that is shorter is left as it came
  pub delivered-short : length out < length bs → delivered (Ok bs) out ≡ record { answer = Err (refusal OutputShort 0); buffer = out }
  unfolding delivered choose
  delivered-short h = ap choose (lt-ltb (length out) (length bs) h)

  -- a refusal of what is long enough, or not, lies at the start
  chosen-place : (b : Bool) (x : Refusal) → (choose b).answer ≡ Err x → x.place ≡ 0
  unfolding choose
  chosen-place true x e = let same : refusal OutputShort 0 ≡ x = cc in sym (ap (λ (y : Refusal). y.place) same)
  chosen-place false x e = let z : ◌≡◌ {A = ℕ} 0 1 = cc in absurd (omega arith)

-- where what is delivered is refused within k bytes, so is the outcome
pub delivered-place : (k : ℕ) (q : Answer (List ℕ)) (out : List ℕ) → Placed k q → (x : Refusal) → (delivered q out).answer ≡ Err x → x.place ≤ k
unfolding delivered choose
delivered-place k (Err y) out p x e = let same : y ≡ x = cc in subst (λ (z : Refusal). z.place ≤ k) same p
delivered-place k (Ok bs) out p x e = omega (arith, chosen-place bs out (ltb (length out) (length bs)) x e)

-- an answer and a buffer that are an outcome's meet it
meets : {o q : Outcome} → o ≡ q → Meets o q.answer q.buffer
meets e = record { answer = ap (λ (w : Outcome). w.answer) (sym e); buffer = ap (λ (w : Outcome). w.buffer) (sym e) }

module _ (q : Answer (List ℕ)) (out : List ℕ) where
  -- a refusal is answered, and the buffer stays
  pub meets-refused : (x : Refusal) → q ≡ Err x → Meets (delivered q out) (Err x) out
  meets-refused x e = meets (ap (λ (w : Answer (List ℕ)). delivered w out) e ∙ delivered-refused x out)

  module _ (bs : List ℕ) (e : q ≡ Ok bs) where
    -- 9 is answered for a shorter buffer, which stays
    pub meets-short : length out < length bs → Meets (delivered q out) (Err (refusal OutputShort 0)) out
    meets-short h = meets (ap (λ (w : Answer (List ℕ)). delivered w out) e ∙ delivered-short bs out h)

    -- the result's length is answered for one that is long enough, and the result stands at its start
    pub meets-written : length bs ≤ length out → (n : ℕ) (d : List ℕ) → n ≡ length bs → d ≡ write out 0 bs → Meets (delivered q out) (Ok n) d
    meets-written h n d long done =
        let m = meets (ap (λ (w : Answer (List ℕ)). delivered w out) e ∙ delivered-fits bs out h) in
        record { answer = ap Ok long ∙ m.answer; buffer = done ∙ m.buffer }
