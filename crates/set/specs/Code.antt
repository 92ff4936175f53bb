-- How code goes through a set's slice: by the keys of its literals, literals as numbers (`literal`, `Order`).
-- In order: the reader's way, which keeps the key of the literal before, where `members_at` keeps its bytes; the key of literal
-- number i; ascending keys; whether a literal has a key, and which; the set of keys; a run of literals; what is written before
-- the literals of a record; the reader's answer.
-- Assumes nothing.
use Rattle.std.specs.Prelude.{ℕ, zero, suc, ◌+◌, ◌*◌, ◌<◌, ◌≡◌, Bool, true, false, ◌&&◌, ◌||◌, List, ◌∷◌, ltb, eqb, drop, Ok, Err}
use Rattle.record.specs.Result.{Answer}
use Rattle.buffer.specs.Bytes.{two_bytes}
use Rattle.literal.specs.declared.Limits.{Limits}
use Rattle.literal.specs.Literal.{decoded}
use Rattle.literal.specs.Code.{is_valid, key_at}
use Rattle.literal.specs.Order.{key}
use Rattle.semantics.specs.Set.{LiteralSet}
use Rattle.record.specs.declared.Reason.TheVariants.{MemberWrong}
use Rattle.record.specs.Header.{set_letter, colon}
use Rattle.record.specs.Refusal.{refusal}
use Rattle.record.specs.Reading.{reading_of}
use Rattle.set.specs.Reading.{parsed_set}

-- n literals from `at` on, each with a key above the one before: `last`, 0 before the first
unfoldable pub members_above : Limits → List ℕ → ℕ → ℕ → ℕ → Answer (Unit {0})
members_above F s at last zero = Ok tt
members_above F s at last (suc n) =
    elim (is_valid (decoded F (drop at s)) && ltb last (key_at (drop at s))) [
      | true ↦ members_above F s (at + 5) (key_at (drop at s)) n
      | false ↦ Err (refusal MemberWrong at)
    ]

-- the key of literal number i, from 0
abbrev pub member_key : List ℕ → ℕ → ℕ
member_key s i = key_at (drop (4 + 5 * i) s)

-- of n literals each has a key below those behind it
abbrev pub Ascends : List ℕ → ℕ → Type 0
Ascends s n = (i j : ℕ) → i < j → j < n → member_key s i < member_key s j

-- one of n literals from `at` on has this key
unfoldable pub has_key_from : List ℕ → ℕ → ℕ → ℕ → Bool
has_key_from s at zero k = false
has_key_from s at (suc n) k = eqb (key_at (drop at s)) k || has_key_from s (at + 5) n k

-- one of a set's n literals has it
unfoldable pub has_key : List ℕ → ℕ → ℕ → Bool
has_key s n k = has_key_from s 4 n k

-- literal number i of n, from 0, has this key
pub record At (s : List ℕ) (n k i : ℕ) : Type 0 where
  pub inside : i < n
  pub same : member_key s i ≡ k

-- the literals whose key it has, as a set
abbrev pub key_set : List ℕ → ℕ → LiteralSet
key_set s n l = has_key s n (key l)

-- one of m literals from `at` on, in t, has a key of the set
unfoldable pub any_key : List ℕ → ℕ → ℕ → List ℕ → ℕ → Bool
any_key s n zero t at = false
any_key s n (suc m) t at = has_key s n (key_at (drop at t)) || any_key s n m t (at + 5)

-- the mark, and the number of literals in two bytes
unfoldable pub set_header : ℕ → List ℕ
set_header n = set_letter ∷ colon ∷ two_bytes n

-- the answer: the number of literals
unfoldable pub set_reading : Limits → ℕ → List ℕ → Answer ℕ
set_reading F most s = reading_of (parsed_set F most s)
