-- Reading a set in a form (01, "Quotient": 10, 12, 11 in this order).
-- In order: the literals one behind the other; the set. Not here: the reader's answer (`Code`).
-- Assumes nothing.
use Rattle.std.specs.Prelude.{ℕ, zero, suc, ◌+◌, ◌*◌, Bool, true, false, not, ◌&&◌, List, [], ◌∷◌, ltb, leb, eqb, length, get_or, take, drop, Ok, Err}
use Rattle.buffer.specs.Bytes.{number_at}
use Rattle.literal.specs.declared.Limits.{Limits}
use Rattle.literal.specs.declared.Literal.{Literal}
use Rattle.literal.specs.Literal.{Valid, Wrong, decoded}
use Rattle.literal.specs.Order.{bytes_before}
use Rattle.record.specs.declared.Reason.TheVariants.{SetWrong, SetTooLarge, MemberWrong}
use Rattle.record.specs.Header.{set_letter, letter_of, colon}
use Rattle.record.specs.Refusal.{refusal}
use Rattle.record.specs.Result.{Answer, and_then, refuse_if}

-- n literals from `at` on, behind the literal whose bytes are `last` (no bytes before the first: they come before all
-- others); 11 at the first byte of the first that is not the form's or not above the one before
unfoldable pub members_at : Limits → List ℕ → ℕ → List ℕ → ℕ → Answer (List Literal)
members_at F s at last zero = Ok []
members_at F s at last (suc n) =
    elim (decoded F (drop at s)) [
      | Wrong ↦ Err (refusal MemberWrong at)
      | Valid l ↦
          elim (bytes_before last (take 5 (drop at s))) [
            | false ↦ Err (refusal MemberWrong at)
            | true ↦ and_then (members_at F s (at + 5) (take 5 (drop at s)) n) (λ ls. Ok (l ∷ ls))
          ]
    ]

-- the slice has an A: record's mark, and is as long as its count says
unfoldable pub set_shape : List ℕ → Bool
set_shape s = leb 4 (length s) && (eqb (letter_of s) set_letter && (eqb (get_or s 1 0) colon && eqb (length s) (4 + 5 * number_at s 2)))

-- the literals of a set of at most `most`, in ascending order: 10 at place 0 for the mark or the length, 12 at place 0
-- for too many, then 11
unfoldable pub parsed_set : Limits → ℕ → List ℕ → Answer (List Literal)
parsed_set F most s =
    refuse_if (not (set_shape s)) (refusal SetWrong 0)
    (refuse_if (ltb most (number_at s 2)) (refusal SetTooLarge 0)
    (members_at F s 4 [] (number_at s 2)))
