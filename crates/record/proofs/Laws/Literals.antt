-- Reading a run of literals, one step each. Assumes nothing.
use Prim.Native.Nat.{ℕ, zero, suc, ◌+◌, ◌-◌, ◌≤◌, ◌<◌}
use Rattle.std.specs.Prelude.{Ok, Err}
use native.Mathlib.Omega.{arith}
use mathlib.Core.Path.{◌≡◌, refl, ◌∙◌, ap}
use mathlib.Core.List.{List, ◌∷◌}
use mathlib.Core.Bool.{true, false}
use lib.ListN.{get_or, drop}
use borrow.Author.Tests.{le-leb, lt-leb}
use Rattle.literal.specs.declared.Limits.{Limits}
use Rattle.literal.specs.declared.Literal.{Literal}
use Rattle.literal.specs.Literal.{Decoded}
use Rattle.literal.specs.Literal.{Valid, Wrong}
use Rattle.literal.specs.Literal.{decoded}
use Rattle.record.specs.declared.Reason.TheVariants.{LiteralWrong}
use Rattle.record.specs.Refusal.{refusal}
use Rattle.record.specs.Result.{Answer, and_then}
use Rattle.record.specs.Reading.{literals_at}
use Rattle.record.specs.Code.{run_of, signed_kinds}

-- a literal more before a run
pub run-and-then : (r : Answer (List Literal)) (l : Literal) → run_of (and_then r (λ ls. Ok (l ∷ ls))) ≡ run_of r
unfolding run_of and_then
run-and-then (Ok ls) l = refl
run-and-then (Err x) l = refl

module _ (F : Limits) (t : List ℕ) (at : ℕ) where
  step : (n : ℕ) → Decoded → Answer (List Literal)
  step n d = elim d [ Valid l ↦ and_then (literals_at F t (at + 5) n) (λ ls. Ok (l ∷ ls)) | Wrong ↦ Err (refusal LiteralWrong at) ]

  -- a right literal leaves the rest of the run
  pub run-valid : (n : ℕ) (l : Literal) → 0 < n → decoded F (drop at t) ≡ Valid l → run_of (literals_at F t at n) ≡ run_of (literals_at F t (at + 5) (n - 1))
  unfolding literals_at step
  run-valid zero l h e = absurd (omega arith)
  run-valid (suc n) l h e =
      ap (λ d. run_of (step n d)) e ∙ run-and-then (literals_at F t (at + 5) n) l ∙ ap (λ (k : ℕ). run_of (literals_at F t (at + 5) k)) back
    where
      back : n ≡ suc n - 1
      back = omega arith

  -- a wrong one ends it there
  pub run-wrong : (n : ℕ) → 0 < n → decoded F (drop at t) ≡ Wrong → run_of (literals_at F t at n) ≡ Err (refusal LiteralWrong at)
  unfolding literals_at step run_of
  run-wrong zero h e = absurd (omega arith)
  run-wrong (suc n) h e = ap (λ d. run_of (step n d)) e

  pub run-nil : (n : ℕ) → n ≤ 0 → run_of (literals_at F t at n) ≡ Ok tt
  unfolding literals_at run_of
  run-nil zero h = refl
  run-nil (suc n) h = absurd (omega arith)

-- the kinds of head literals, one step each
module _ (t : List ℕ) (at : ℕ) where
  pub kinds-signed : (n : ℕ) → 0 < n → get_or t at 0 ≤ 1 → signed_kinds t at n ≡ signed_kinds t (at + 5) (n - 1)
  unfolding signed_kinds
  kinds-signed zero h k = absurd (omega arith)
  kinds-signed (suc n) h k = rw (le-leb (get_or t at 0) 1 k) (ap (signed_kinds t (at + 5)) back)
    where
      back : n ≡ suc n - 1
      back = omega arith

  pub kinds-marked : (n : ℕ) → 0 < n → 1 < get_or t at 0 → signed_kinds t at n ≡ false
  unfolding signed_kinds
  kinds-marked zero h k = absurd (omega arith)
  kinds-marked (suc n) h k = rw (lt-leb (get_or t at 0) 1 k)

  pub kinds-nil : (n : ℕ) → n ≤ 0 → signed_kinds t at n ≡ true
  unfolding signed_kinds
  kinds-nil zero h = refl
  kinds-nil (suc n) h = absurd (omega arith)
