-- What reading the literals of a set accepts: a run of the form's literals, each above the one before; and the way back.
-- In order: literals above a key; literals that are accepted; literals in ascending order are accepted. Assumes nothing.
use Prim.Native.Nat.{ℕ, zero, suc, ◌+◌, ◌*◌, ◌≤◌}
use Rattle.std.specs.Prelude.{Ok, Err}
use native.Mathlib.Omega.{arith}
use mathlib.Core.Path.{◌≡◌, refl, sym, ◌∙◌, ap, subst}
use mathlib.Core.Bool.{Bool, true, false, ◌&&◌}
use mathlib.Core.List.{List, [], ◌∷◌, ◌++◌, append_assoc}
use lib.Dec.{T, ltb}
use lib.ListN.{length, take, drop, length-drop, length-append}
use lib.Seq.{drop-drop, drop_at}
use borrow.Author.Tests.{lt-ltb}
use Rattle.buffer.specs.Bytes.{Bytes}
use Rattle.buffer.proofs.Laws.Bytes.{bytes_drop}
use Rattle.literal.specs.declared.Limits.{Limits}
use Rattle.literal.specs.declared.Literal.{Literal}
use Rattle.literal.specs.Literal.{Decoded, Valid, Wrong, encoded, decoded, takes}
use Rattle.literal.specs.Order.{bytes_before, key, before}
use Rattle.literal.specs.Code.{key_at}
use Rattle.literal.proofs.Laws.Literal.{length-encoded, decoded-encoded}
use Rattle.literal.proofs.Laws.Order.{key_at-encoded, key_at-decoded, key-positive}
use Rattle.semantics.specs.Set.{each_of}
use Rattle.semantics.proofs.Laws.Tests.{both, first, second, is_true}
use Rattle.record.specs.declared.Reason.TheVariants.{LiteralWrong}
use Rattle.record.specs.Refusal.{refusal}
use Rattle.record.specs.Result.{Answer, and_then}
use Rattle.record.specs.Layout.{encoded_literals}
use Rattle.record.specs.Reading.{literals_at}
use Rattle.record.proofs.Laws.Result.{refused-accepted, accepted-eq, and-then-accepted, accepted-and-then}
use Rattle.set.specs.Layout.{ascending}
use Rattle.set.specs.Reading.{members_at}
use Rattle.set.proofs.Laws.Order.{Alike, alike_next, members-wrong, members-low, members-right}

-- each literal's key is above the one before, and the first's above k
abbrev pub above : ℕ → List Literal → Bool
above k [] = true
above k (l ∷ ls) = ltb k (key l) && above (key l) ls

above-ascending : (l : Literal) (ls : List Literal) → ascending (l ∷ ls) ≡ above (key l) ls
unfolding ascending before
above-ascending l [] = refl
above-ascending l (m ∷ ls) = ap (λ b. ltb (key l) (key m) && b) (above-ascending m ls)

-- literals of a form ascend where their keys do from 0 on
pub ascending-above : (F : Limits) (ls : List Literal) → T (each_of (takes F) ls) → ascending ls ≡ above 0 ls
unfolding ascending
ascending-above F [] t = refl
ascending-above F (l ∷ ls) t =
    above-ascending l ls ∙ ap (λ b. b && above (key l) ls) (sym (lt-ltb 0 (key l) (key-positive F l (first (takes F l) (each_of (takes F) ls) t))))

module _ (F : Limits) (s : List ℕ) (bytes : Bytes s) where
  -- a literal at the head of a run
  literals-right : (at n : ℕ) (l : Literal) → decoded F (drop at s) ≡ Valid l
      → literals_at F s at (suc n) ≡ and_then (literals_at F s (at + 5) n) (λ ls. Ok (l ∷ ls))
  unfolding literals_at
  literals-right at n l e =
      ap (λ d. elim d as (λ x. Answer (List Literal)) [
        | Valid m ↦ and_then (literals_at F s (at + 5) n)
            (λ ls. Ok (m ∷ ls))
        | Wrong ↦ Err (refusal LiteralWrong at)
      ]) e

  -- the literals that are accepted
  pub members-sound : (n at : ℕ) (last : List ℕ) (k : ℕ) (ls : List Literal) → Alike F last k → at + 5 * n ≤ length s
      → members_at F s at last n ≡ Ok ls → (literals_at F s at n ≡ Ok ls) × T (above k ls)
  unfolding members_at literals_at
  members-sound zero at last k ls alike fits e = (e, subst (λ (ms : List Literal). T (above k ms)) (accepted-eq e) tt)
  members-sound (suc n) at last k ls alike fits e =
      go (decoded F (drop at s)) refl (bytes_before last (take 5 (drop at s))) refl
      (λ ms z. members-sound n (at + 5) (take 5 (drop at s)) (key_at (drop at s)) ms (alike_next F (drop at s) here five) (omega arith) z)
    where
      here : Bytes (drop at s)
      here = bytes_drop at s bytes

      five : 5 ≤ length (drop at s)
      five = omega (arith, length-drop at s)

      go : (d : Decoded) → decoded F (drop at s) ≡ d → (b : Bool) → bytes_before last (take 5 (drop at s)) ≡ b
          → ((ms : List Literal) → members_at F s (at + 5) (take 5 (drop at s)) n ≡ Ok ms
          → (literals_at F s (at + 5) n ≡ Ok ms) × T (above (key_at (drop at s)) ms))
          → (literals_at F s at (suc n) ≡ Ok ls) × T (above k ls)
      go Wrong q b r ih = absurd (refused-accepted (sym (members-wrong F s at last n q) ∙ e))
      go (Valid l) q false r ih = absurd (refused-accepted (sym (members-low F s at last n l q r) ∙ e))
      go (Valid l) q true r ih =
          let w = and-then-accepted (members_at F s (at + 5) (take 5 (drop at s)) n) (λ ms. Ok (l ∷ ms)) ls
          (sym (members-right F s at last n l q r) ∙ e) in
          let rest = ih w.0 w.1 in
          let same = key_at-decoded F (drop at s) l here five q in
          let higher = ap (ltb k) (sym same) ∙ sym (alike (drop at s) l here five q) ∙ r in (
            literals-right at n l q ∙ ap (λ (x : Answer (List Literal)). and_then x (λ ms. Ok (l ∷ ms))) rest.0
                ∙ accepted-and-then w.0 (λ ms. Ok (l ∷ ms)) ∙ w.2,
            subst (λ (ms : List Literal). T (above k ms)) (accepted-eq w.2)
                (both (ltb k (key l)) (above (key l) w.0) (subst T (sym higher) tt) (subst (λ (i : ℕ). T (above i w.0)) same rest.1)),
          )

  -- ascending literals of the form are accepted
  pub members-complete : (ls : List Literal) (at : ℕ) (last : List ℕ) (k : ℕ) (rest : List ℕ) → Alike F last k → T (each_of (takes F) ls) → T (above k ls)
      → drop at s ≡ encoded_literals ls ++ rest → members_at F s at last (length ls) ≡ Ok ls
  unfolding members_at encoded_literals
  members-complete [] at last k rest alike t u e = refl
  members-complete (l ∷ ls) at last k rest alike t u e =
      members-right F s at last (length ls) l valid higher
      ∙ ap (λ (x : Answer (List Literal)). and_then x (λ ms. Ok (l ∷ ms)))
      (members-complete ls (at + 5) (take 5 (drop at s)) (key_at (drop at s)) rest (alike_next F (drop at s) (bytes_drop at s bytes) five)
      (second (takes F l) (each_of (takes F) ls) t) (subst (λ (i : ℕ). T (above i ls)) (sym same) (second (ltb k (key l)) (above (key l) ls) u)) behind)
      ∙ accepted-and-then ls (λ ms. Ok (l ∷ ms))
    where
      here : drop at s ≡ encoded l ++ (encoded_literals ls ++ rest)
      here = e ∙ append_assoc (encoded l) (encoded_literals ls) rest

      valid : decoded F (drop at s) ≡ Valid l
      valid = ap (decoded F) here ∙ decoded-encoded F l (encoded_literals ls ++ rest) (first (takes F l) (each_of (takes F) ls) t)

      five : 5 ≤ length (drop at s)
      five = omega (arith, ap length here, length-append (encoded l) (encoded_literals ls ++ rest), length-encoded l)

      same : key_at (drop at s) ≡ key l
      same = ap key_at here ∙ key_at-encoded l (encoded_literals ls ++ rest)

      higher : bytes_before last (take 5 (drop at s)) ≡ true
      higher =
          alike (drop at s) l (bytes_drop at s bytes) five valid
          ∙ ap (ltb k) same
          ∙ is_true (ltb k (key l)) (first (ltb k (key l)) (above (key l) ls) u)

      behind : drop (at + 5) s ≡ encoded_literals ls ++ rest
      behind = sym (drop-drop 5 at s) ∙ ap (drop 5) here ∙ drop_at (encoded l) (encoded_literals ls ++ rest) 5 (length-encoded l)
