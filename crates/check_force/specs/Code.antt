-- How the check narrows its search (01, "Check"): two bounds around the masks that are sought, and clauses over the positions of
-- a set. A clause is what is left of a rule in the quotient, as two masks; the field says clause for a rule whose body is not
-- all present or whose head is not all absent. Of n literals the first has position n - 1 and the last position 0: read as a
-- number, a mask then is the row of its literals' marks, absent before present.
-- In order: masks between two bounds; when a property forces nothing; bounds narrowed, once and until nothing changes; a clause
-- holds; a mask in which each clause holds; bounds on which no clause forces anything; a smaller model; the positions of
-- literals; what is left of a quotient's rules, as clauses.
-- Assumes nothing.
use Rattle.std.specs.Prelude.{ℕ, ◌^◌, ◌≡◌, cond, List, [], ◌∷◌, T, All, length}
use Rattle.std.specs.Int.Bits.{bit_or}
use Rattle.literal.specs.declared.Literal.{Literal}
use Rattle.semantics.specs.Set.{each_of, same_literal, set_of}
use Rattle.semantics.specs.Rule.{Remainder}
use Rattle.mask.specs.Code.{has, Within, Apart}
use Rattle.check_force.specs.declared.Bounds.{Bounds}
use Rattle.check_force.specs.declared.Clause.{Clause}

-- x has each position that it must have, and no position but those that it may have
pub record Between (must may x : ℕ) : Type 0 where
  pub above : Within must x
  pub below : Within x may

-- P forces nothing on the bounds: a position that each mask between them with P has is one that it must have, and a position
-- that none of them has is none that it may have
pub record Quiet (P : ℕ → Type 0) (must may : ℕ) : Type 0 where
  pub present : (i : ℕ) → ((x : ℕ) → Between must may x → P x → T (has x i)) → T (has must i)
  pub absent : (i : ℕ) → ((x : ℕ) → Between must may x → P x → T (has x i) → ⊥) → T (has may i) → ⊥

-- no mask between the bounds has P
abbrev pub Dead : (ℕ → Type 0) → ℕ → ℕ → Type 0
Dead P must may = (x : ℕ) → Between must may x → P x → ⊥

-- the bounds must and may were narrowed to r by nothing but P: no mask between them that has P is lost
pub record Kept (P : ℕ → Type 0) (must may : ℕ) (r : Bounds) : Type 0 where
  pub more : Within must r.must
  pub less : Within r.may may
  pub inside : Within must may → Within r.must r.may
  pub keeps : (x : ℕ) → Between must may x → P x → Between r.must r.may x

-- so narrowed, and where nothing changed, Q holds of the bounds, and where one mask was left, it has P
pub record Narrowed (P : ℕ → Type 0) (Q : ℕ → ℕ → Type 0) (must may : ℕ) (r : Bounds) : Type 0 where
  pub kept : Kept P must may r
  pub leaf : r.must ≡ must → r.may ≡ may → must ≡ may → P must
  pub quiet : r.must ≡ must → r.may ≡ may → Within must may → Q must may

-- so narrowed until nothing changes: Q holds of the bounds that are left, and where one mask is left, it has P
pub record Propagated (P : ℕ → Type 0) (Q : ℕ → ℕ → Type 0) (must may : ℕ) (r : Bounds) : Type 0 where
  pub kept : Kept P must may r
  pub leaf : r.must ≡ r.may → P r.must
  pub settled : Q r.must r.may

-- the clause with this body and this head holds in x: x lacks a position of the body or has one of the head
abbrev pub Holds : ℕ → ℕ → ℕ → Type 0
Holds body head x = Within body x → Apart head x → ⊥

-- each clause holds in x, and x lacks a position of the whole set
pub record Model (whole : ℕ) (clauses : List Clause) (x : ℕ) : Type 0 where
  pub proper : Holds whole 0 x
  pub each : All (λ c. Holds c.body c.head x) clauses

-- no clause forces anything on the bounds, nor does that a position of the whole set is lacking: what the clauses force is settled
pub record Settled (whole : ℕ) (clauses : List Clause) (must may : ℕ) : Type 0 where
  pub proper : Quiet (Holds whole 0) must may
  pub each : All (λ c. Quiet (Holds c.body c.head) must may) clauses

-- x is a part of the whole set, and not all of it, in which each clause holds
pub record Smaller (whole : ℕ) (clauses : List Clause) (x : ℕ) : Type 0 where
  pub within : Within x whole
  pub proper : x ≡ whole → ⊥
  pub each : All (λ c. Holds c.body c.head x) clauses

-- the position of a literal in a list, as a mask; empty where it is not there
unfoldable pub mask_of : List Literal → Literal → ℕ
mask_of [] l = 0
mask_of (m ∷ ls) l = cond (same_literal l m) (2 ^ length ls) (mask_of ls l)

-- the positions of some literals in a list
unfoldable pub masks_of : List Literal → List Literal → ℕ
masks_of ls [] = 0
masks_of ls (q ∷ qs) = bit_or (mask_of ls q) (masks_of ls qs)

-- the clauses of a quotient over the positions of ls: a rule with a positive literal that is not in ls holds in each part of ls, and
-- is left out
unfoldable pub clauses_of : List Literal → List Remainder → List Clause
clauses_of ls [] = []
clauses_of ls (q ∷ qs) =
    cond (each_of (set_of ls) q.positive) (record { body = masks_of ls q.positive; head = masks_of ls q.head } ∷ clauses_of ls qs) (clauses_of ls qs)
