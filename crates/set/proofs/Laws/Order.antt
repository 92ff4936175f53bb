-- A set's literals by their bytes and by their keys: the literal before one, kept as bytes or as a key, decides alike.
-- In order: where bytes and a key decide alike; one step through the literals; the reader's way is that of the definition;
-- the number of literals. Assumes nothing.
use Prim.Native.Nat.{ℕ, zero, suc, ◌+◌, ◌-◌, ◌*◌, ◌≤◌}
use Rattle.std.specs.Prelude.{Ok, Err}
use native.Mathlib.Omega.{arith}
use mathlib.Core.Path.{◌≡◌, refl, sym, ◌∙◌, ap}
use mathlib.Core.Bool.{Bool, true, false}
use mathlib.Core.List.{List, [], ◌∷◌}
use lib.Dec.{ltb}
use lib.ListN.{length, take, drop, length-drop}
use borrow.Author.Tests.{lt-ltb, ltb-true, ltb-false}
use Rattle.buffer.specs.Bytes.{Bytes}
use Rattle.buffer.proofs.Laws.Bytes.{bytes_drop}
use Rattle.literal.specs.declared.Limits.{Limits}
use Rattle.literal.specs.declared.Literal.{Literal}
use Rattle.literal.specs.Literal.{Decoded, Valid, Wrong, decoded}
use Rattle.literal.specs.Code.{is_valid, key_at}
use Rattle.literal.specs.Order.{bytes_before}
use Rattle.literal.proofs.Laws.Literal.{encoded-decoded}
use Rattle.literal.proofs.Laws.Order.{bytes_before-key_at, key_at-decoded, key-positive}
use Rattle.record.specs.declared.Reason.TheVariants.{MemberWrong}
use Rattle.record.specs.Refusal.{refusal}
use Rattle.record.specs.Result.{Answer, and_then}
use Rattle.record.specs.Code.{run_of}
use Rattle.record.proofs.Laws.Literals.{run-and-then}
use Rattle.set.specs.Reading.{members_at}
use Rattle.set.specs.Code.{members_above}
use Rattle.set.proofs.Laws.Members.{above-right, above-wrong, above_low}

-- the bytes `last` and the key k come before the same literals of the form
abbrev pub Alike : Limits → List ℕ → ℕ → Type 0
Alike F last k = (bs : List ℕ) (l : Literal) → Bytes bs → 5 ≤ length bs → decoded F bs ≡ Valid l → bytes_before last (take 5 bs) ≡ ltb k (key_at bs)

module _ (F : Limits) where
  -- nothing and 0 come before all
  pub alike-first : Alike F [] 0
  unfolding bytes_before
  alike-first [] l h n e = absurd (omega arith)
  alike-first (b ∷ bs) l h n e =
      sym (lt-ltb 0 (key_at (b ∷ bs)) (omega (arith, key_at-decoded F (b ∷ bs) l h n e, key-positive F l (encoded-decoded F (b ∷ bs) l h n e).1)))

  -- a literal's bytes and its key
  pub alike_next : (cs : List ℕ) → Bytes cs → 5 ≤ length cs → Alike F (take 5 cs) (key_at cs)
  alike_next cs g m bs l h n e = bytes_before-key_at cs bs g h m n

  module _ (s : List ℕ) (at : ℕ) (last : List ℕ) (n : ℕ) where
    -- what one literal leaves
    step : Decoded → Bool → Answer (List Literal)
    step d b =
        elim d [
          | Wrong ↦ Err (refusal MemberWrong at)
          | Valid l ↦
              elim b [
                | false ↦ Err (refusal MemberWrong at)
                | true ↦ and_then (members_at F s (at + 5) (take 5 (drop at s)) n) (λ ls. Ok (l ∷ ls))
              ]
        ]

    pub members-wrong : decoded F (drop at s) ≡ Wrong → members_at F s at last (suc n) ≡ Err (refusal MemberWrong at)
    unfolding members_at step
    members-wrong e = ap (λ d. step d (bytes_before last (take 5 (drop at s)))) e

    pub members-low : (l : Literal) → decoded F (drop at s) ≡ Valid l → bytes_before last (take 5 (drop at s)) ≡ false
        → members_at F s at last (suc n) ≡ Err (refusal MemberWrong at)
    unfolding members_at step
    members-low l e b = ap (λ d. step d (bytes_before last (take 5 (drop at s)))) e ∙ ap (λ x. step (Valid l) x) b

    pub members-right : (l : Literal) → decoded F (drop at s) ≡ Valid l → bytes_before last (take 5 (drop at s)) ≡ true
        → members_at F s at last (suc n) ≡ and_then (members_at F s (at + 5) (take 5 (drop at s)) n) (λ ls. Ok (l ∷ ls))
    unfolding members_at step
    members-right l e b = ap (λ d. step d (bytes_before last (take 5 (drop at s)))) e ∙ ap (λ x. step (Valid l) x) b

  -- the reader's way through n literals
  pub above-members : (s : List ℕ) → Bytes s → (n at : ℕ) (last : List ℕ) (k : ℕ) → Alike F last k → at + 5 * n ≤ length s
      → members_above F s at k n ≡ run_of (members_at F s at last n)
  unfolding members_above members_at run_of is_valid
  above-members s bytes zero at last k alike fits = refl
  above-members s bytes (suc n) at last k alike fits =
      go (decoded F (drop at s)) refl (bytes_before last (take 5 (drop at s))) refl
      (above-members s bytes n (at + 5) (take 5 (drop at s)) (key_at (drop at s)) (alike_next (drop at s) here five) (omega arith))
    where
      here : Bytes (drop at s)
      here = bytes_drop at s bytes

      five : 5 ≤ length (drop at s)
      five = omega (arith, length-drop at s)

      go : (d : Decoded) → decoded F (drop at s) ≡ d → (b : Bool) → bytes_before last (take 5 (drop at s)) ≡ b
          → members_above F s (at + 5) (key_at (drop at s)) n ≡ run_of (members_at F s (at + 5) (take 5 (drop at s)) n)
          → members_above F s at k (suc n) ≡ run_of (members_at F s at last (suc n))
      go Wrong q b r ih = above-wrong F s at k (suc n) (omega arith) (ap is_valid q) ∙ sym (ap run_of (members-wrong s at last n q))
      go (Valid l) q false r ih =
          above_low F s at k (suc n) (omega arith) (ap is_valid q) (ltb-false k (key_at (drop at s)) (sym (alike (drop at s) l here five q) ∙ r))
          ∙ sym (ap run_of (members-low s at last n l q r))
      go (Valid l) q true r ih =
          above-right F s at k (suc n) (omega arith) (ap is_valid q) (ltb-true k (key_at (drop at s)) (sym (alike (drop at s) l here five q) ∙ r))
          ∙ ap (members_above F s (at + 5) (key_at (drop at s))) back
          ∙ ih
          ∙ sym (ap run_of (members-right s at last n l q r) ∙ run-and-then (members_at F s (at + 5) (take 5 (drop at s)) n) l)
        where
          back : suc n - 1 ≡ n
          back = omega arith
