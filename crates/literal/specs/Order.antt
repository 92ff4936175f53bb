-- The order of literals, that of their byte strings (01, "Records": strictly ascending as byte strings).
-- In order: the order of byte strings; a literal as one number; the order of literals; a list of literals sorted, each once.
-- Assumes nothing.
use Rattle.std.specs.Prelude.{ℕ, ◌+◌, ◌*◌, Bool, true, false, ◌&&◌, ◌||◌, List, [], ◌∷◌, ltb, eqb}
use Rattle.literal.specs.declared.Literal.{Literal}
use Rattle.literal.specs.Literal.{kind, tag_field, atom_field}

-- bs stands before cs: it is less at the first place where they differ, or ends there
unfoldable pub bytes_before : List ℕ → List ℕ → Bool
bytes_before bs [] = false
bytes_before [] (c ∷ cs) = true
bytes_before (b ∷ bs) (c ∷ cs) = ltb b c || (eqb b c && bytes_before bs cs)

-- three fields as one number
abbrev pub key_of : ℕ → ℕ → ℕ → ℕ
key_of k t a = (k * 65536 + t) * 65536 + a

-- a literal's key
unfoldable pub key : Literal → ℕ
key l = key_of (kind l) (tag_field l) (atom_field l)

-- the order of literals
unfoldable pub before : Literal → Literal → Bool
before l m = ltb (key l) (key m)

-- an ascending list with one literal more, once
unfoldable pub inserted : Literal → List Literal → List Literal
inserted l [] = l ∷ []
inserted l (m ∷ ls) =
    elim (before l m) [
      | true ↦ l ∷ m ∷ ls
      | false ↦ elim (before m l) [ true ↦ m ∷ inserted l ls | false ↦ m ∷ ls ]
    ]

-- the literals of a list, ascending, each once
unfoldable pub sorted : List Literal → List Literal
sorted [] = []
sorted (l ∷ ls) = inserted l (sorted ls)
