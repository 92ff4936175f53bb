-- How the check makes clauses of a program's rules, over the positions of a set's literals, and finds the first broken rule (01,
-- "Check"). A position is found by its literal's key: of n literals the first has position n - 1 and the last position 0.
-- In order: the position of a key, and those of the keys in a slice; literals and their positions; the clause of a record; what
-- building asks; what is built.
-- Assumes nothing.
use Rattle.std.specs.Prelude.{ℕ, zero, suc, ◌+◌, ◌*◌, ◌^◌, ◌≤◌, ◌<◌, ◌≡◌, cond, List, [], ◌∷◌, eqb, drop, length, take, Option, Some, None, Result, MatchResult}
use Rattle.std.proofs.Math.Option.{none, some}
use Rattle.std.specs.Int.Bits.{bit_or}
use Rattle.literal.specs.declared.Literal.{Literal}
use Rattle.literal.specs.declared.RuleNo.{RuleNo}
use Rattle.literal.specs.Code.{key_at}
use Rattle.literal.specs.Order.{key}
use Rattle.semantics.specs.Set.{each_of, set_of}
use Rattle.semantics.specs.Rule.{Program}
use Rattle.semantics.specs.Meaning.{quotient}
use Rattle.semantics.specs.Verdict.{broken_from}
use Rattle.record.specs.Header.{defeasible_letter, letter_of, head_count, positive_count, naf_count}
use Rattle.record.specs.Layout.{encoded_program}
use Rattle.set.specs.Code.{has_key, any_key}
use Rattle.set.specs.Layout.{encoded_set}
use Rattle.quotient_rule.specs.Code.{left_at}
use Rattle.check_force.specs.declared.Clause.{Clause}
use Rattle.check_force.specs.Code.{clauses_of}
use Rattle.check_clauses.specs.declared.Left.{Left}

-- the position of the first of n literals from `at` on that has this key, as a mask; empty where none has it
unfoldable pub key_mask_from : List ℕ → ℕ → ℕ → ℕ → ℕ
key_mask_from s at zero k = 0
key_mask_from s at (suc n) k = cond (eqb (key_at (drop at s)) k) (2 ^ n) (key_mask_from s (at + 5) n k)

-- that of a set's n literals
unfoldable pub key_mask : List ℕ → ℕ → ℕ → ℕ
key_mask s n k = key_mask_from s 4 n k

-- the keys of n literals in a slice, from `at` on
unfoldable pub keys_at : List ℕ → ℕ → ℕ → List ℕ
keys_at t at zero = []
keys_at t at (suc n) = key_at (drop at t) ∷ keys_at t (at + 5) n

-- the union of the masks of a list's elements
unfoldable pub union : {A : Type 0} → (A → ℕ) → List A → ℕ
union f [] = 0
union f (x ∷ xs) = bit_or (f x) (union f xs)

-- the positions of keys, where the set has each
unfoldable pub positions_of : List ℕ → ℕ → List ℕ → Option ℕ
positions_of s n ks = cond (each_of (has_key s n) ks) (Some (union (key_mask s n) ks)) None

-- the position of a literal among a set's n literals, by its key
abbrev pub literal_mask : List ℕ → ℕ → Literal → ℕ
literal_mask s n l = key_mask s n (key l)

-- how many literals there are and their positions, if there are any
unfoldable pub left_of : List ℕ → ℕ → List Literal → Option Left
left_of s n ls = cond (eqb (length ls) 0) None (Some (record { count = length ls; mask = union (literal_mask s n) ls }))

-- the clause of the rule whose record starts t, with this body, by the set of s's n literals: of a defeasible rule where an option
-- is left
unfoldable pub clause_with : List ℕ → ℕ → List ℕ → ℕ → Option Clause
clause_with t body s n =
    cond (eqb (letter_of t) defeasible_letter)
    (cond (eqb (length (left_at t s n 7 (head_count t))) 0) None
    (Some (record { body = body; head = union (literal_mask s n) (left_at t s n 7 (head_count t)) })))
    (Some (record { body = body; head = union (key_mask s n) (keys_at t 7 (head_count t)) }))

-- where no naf literal is in the set and each positive literal is
unfoldable pub clause_at : List ℕ → List ℕ → ℕ → Option Clause
clause_at t s n =
    cond (any_key s n (naf_count t) t (7 + 5 * (head_count t + positive_count t))) None
    (cond (each_of (has_key s n) (keys_at t (7 + 5 * head_count t) (positive_count t)))
    (clause_with t (union (key_mask s n) (keys_at t (7 + 5 * head_count t) (positive_count t))) s n)
    None)

-- a slice of `room` elements has room for a clause of each rule, whose numbers fit two bytes
pub record Clausable (room : ℕ) (p : Program) : Type 0 where
  pub clauses : length p ≤ room
  pub numbered : length p < 65535

-- no rule is broken, and the first `count` clauses are those of what the set of ls leaves of the program
pub record Whole (p : Program) (ls : List Literal) (clauses : List Clause) (count : ℕ) : Type 0 where
  pub unbroken : broken_from 1 p (set_of ls) ≡ none
  pub few : count ≤ length p
  pub written : take count clauses ≡ clauses_of ls (quotient p (set_of ls))

-- what was built, for each program and set that the slices hold: all clauses, or the number of the first rule that is broken
abbrev pub Clauses : List ℕ → List ℕ → ℕ → Result ℕ RuleNo → List Clause → Type 0
Clauses s set n r clauses =
    (p : Program) (ls : List Literal) → s ≡ encoded_program p → set ≡ encoded_set ls → length ls ≡ n
    → MatchResult r (Whole p ls clauses) (λ k. broken_from 1 p (set_of ls) ≡ some k.0)
