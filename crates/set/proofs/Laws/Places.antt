-- Where a set is refused: within its literals. Assumes nothing.
use Prim.Native.Nat.{ℕ, zero, suc, ◌+◌, ◌*◌, ◌≤◌}
use Rattle.std.specs.Prelude.{Ok, Err}
use native.Mathlib.Omega.{arith}
use mathlib.Core.Bool.{Bool, true, false, not}
use mathlib.Core.List.{List, ◌∷◌}
use lib.Dec.{ltb}
use lib.ListN.{take, drop}
use borrow.Author.Tests.{ltb-false}
use Rattle.buffer.specs.Bytes.{number_at}
use Rattle.literal.specs.declared.Limits.{Limits}
use Rattle.literal.specs.declared.Literal.{Literal}
use Rattle.literal.specs.Literal.{Decoded}
use Rattle.literal.specs.Literal.{Valid, Wrong}
use Rattle.literal.specs.Literal.{decoded}
use Rattle.literal.specs.Order.{bytes_before}
use Rattle.record.specs.declared.Reason.TheVariants.{MemberWrong}
use Rattle.record.specs.Refusal.{refusal}
use Rattle.record.specs.Result.{Answer, and_then}
use Rattle.record.proofs.Laws.Places.{Placed, refuse-if-placed, and-then-placed}
use Rattle.set.specs.Reading.{members_at, set_shape, parsed_set}

-- of n literals from `at` on
members-placed : (F : Limits) (s : List ℕ) (n at : ℕ) (last : List ℕ) (k : ℕ) → at + 5 * n ≤ k → Placed k (members_at F s at last n)
unfolding members_at
members-placed F s zero at last k h = tt
members-placed F s (suc n) at last k h = go (decoded F (drop at s)) (members-placed F s n (at + 5) (take 5 (drop at s)) k (omega arith))
  where
    next : Answer (List Literal)
    next = members_at F s (at + 5) (take 5 (drop at s)) n

    above : Literal → Bool → Answer (List Literal)
    above l b = elim b [ false ↦ Err (refusal MemberWrong at) | true ↦ and_then next (λ ls. Ok (l ∷ ls)) ]

    step : Decoded → Answer (List Literal)
    step d = elim d [ Wrong ↦ Err (refusal MemberWrong at) | Valid l ↦ above l (bytes_before last (take 5 (drop at s))) ]

    kept : (l : Literal) (b : Bool) → Placed k next → Placed k (above l b)
    kept l false ih = omega arith
    kept l true ih = and-then-placed k next (λ ls. Ok (l ∷ ls)) ih (λ ls. tt)

    go : (d : Decoded) → Placed k next → Placed k (step d)
    go Wrong ih = omega arith
    go (Valid l) ih = kept l (bytes_before last (take 5 (drop at s))) ih

-- of a set of at most `most`
pub parsed-set-placed : (F : Limits) (most : ℕ) (s : List ℕ) → Placed (4 + 5 * most) (parsed_set F most s)
unfolding parsed_set
parsed-set-placed F most s =
    refuse-if-placed (4 + 5 * most) (not (set_shape s)) _ _ (omega arith) (λ e.
    refuse-if-placed (4 + 5 * most) (ltb most (number_at s 2)) _ _ (omega arith) (λ q.
    members-placed F s (number_at s 2) 4 _ (4 + 5 * most) (omega (arith, ltb-false most (number_at s 2) q))))
