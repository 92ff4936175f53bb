-- The reader's way through a set's literals, one step each. Assumes nothing.
use Prim.Native.Nat.{ℕ, zero, suc, ◌+◌, ◌-◌, ◌≤◌, ◌<◌}
use Rattle.record.specs.Result.{Answer}
use Rattle.std.specs.Prelude.{Ok, Err}
use native.Mathlib.Omega.{arith}
use mathlib.Core.Path.{◌≡◌, refl, ◌∙◌, ap}
use mathlib.Core.Bool.{Bool, true, false, ◌&&◌}
use mathlib.Core.List.{List}
use lib.Dec.{ltb}
use lib.ListN.{drop}
use borrow.Author.Tests.{lt-ltb, le-ltb}
use Rattle.literal.specs.declared.Limits.{Limits}
use Rattle.literal.specs.Literal.{decoded}
use Rattle.literal.specs.Code.{is_valid, key_at}
use Rattle.record.specs.declared.Reason.TheVariants.{MemberWrong}
use Rattle.record.specs.Refusal.{refusal}
use Rattle.set.specs.Code.{members_above}

module _ (F : Limits) (s : List ℕ) (at last : ℕ) where
  -- what one literal leaves, by whether it is right
  step : ℕ → Bool → Answer (Unit {0})
  step n b = elim b [ true ↦ members_above F s (at + 5) (key_at (drop at s)) n | false ↦ Err (refusal MemberWrong at) ]

  -- a literal above the one before leaves the rest
  pub above-right : (n : ℕ) → 0 < n → is_valid (decoded F (drop at s)) ≡ true → last < key_at (drop at s)
      → members_above F s at last n ≡ members_above F s (at + 5) (key_at (drop at s)) (n - 1)
  unfolding members_above step
  above-right zero h v k = absurd (omega arith)
  above-right (suc n) h v k =
      ap (λ (b : Bool). step n (b && ltb last (key_at (drop at s)))) v
      ∙ ap (λ (b : Bool). step n b) (lt-ltb last (key_at (drop at s)) k)
      ∙ ap (members_above F s (at + 5) (key_at (drop at s))) back
    where
      back : n ≡ suc n - 1
      back = omega arith

  -- one that is not the form's ends it there
  pub above-wrong : (n : ℕ) → 0 < n → is_valid (decoded F (drop at s)) ≡ false → members_above F s at last n ≡ Err (refusal MemberWrong at)
  unfolding members_above step
  above-wrong zero h v = absurd (omega arith)
  above-wrong (suc n) h v = ap (λ (b : Bool). step n (b && ltb last (key_at (drop at s)))) v

  -- and so does one that is not above the one before
  pub above_low : (n : ℕ) → 0 < n → is_valid (decoded F (drop at s)) ≡ true → key_at (drop at s) ≤ last
      → members_above F s at last n ≡ Err (refusal MemberWrong at)
  unfolding members_above step
  above_low zero h v k = absurd (omega arith)
  above_low (suc n) h v k =
      ap (λ (b : Bool). step n (b && ltb last (key_at (drop at s)))) v
      ∙ ap (λ (b : Bool). step n b) (le-ltb last (key_at (drop at s)) k)

  -- no literal is left
  pub above-nil : (n : ℕ) → n ≤ 0 → members_above F s at last n ≡ Ok tt
  unfolding members_above
  above-nil zero h = refl
  above-nil (suc n) h = absurd (omega arith)
