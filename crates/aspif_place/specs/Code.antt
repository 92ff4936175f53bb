-- How code numbers the literals that occur in a program: each literal of the form has a place, ascending as the literals do. Places are
-- binary digits of words; a literal's is marked where it occurs, and its number is one more than the marked places below.
-- In order: how many places there are; a literal's place; limits within which each literal has one of its own; marks; numbers; what
-- the marked places of atoms say of constraints and names.
-- Assumes nothing.
use Rattle.std.specs.Prelude.{ℕ, zero, suc, ◌+◌, ◌*◌, ◌-◌, ◌/◌, ◌%◌, ◌≤◌, ◌<◌, ◌≡◌, Bool, cond, ◌&&◌, List, [], ◌∷◌, ◌++◌, map, leb, length, get_or}
use Rattle.buffer.specs.Bytes.{number_at}
use Rattle.literal.specs.declared.Limits.{Limits}
use Rattle.literal.specs.declared.Literal.{Literal}
use Rattle.literal.specs.declared.SignedAtom.{SignedAtom}
use Rattle.literal.specs.declared.SignedAtom.TheVariants.{Positive, Negative}
use Rattle.literal.specs.Literal.{kind, tag_field, atom_field}
use Rattle.semantics.specs.Rule.{Program}
use Rattle.mask.specs.Code.{has}
use Rattle.keys.specs.Keys.{key_in}
use Rattle.aspif_meaning.specs.Ground.{GroundProgram}
use Rattle.aspif_meaning.specs.Numbering.{occurring}
use Rattle.aspif_meaning.specs.Program.{never_both, Name}

-- a row has a place for each number of a kind and tag: more than the atoms, or the rule numbers, of the form
abbrev pub row_places : ℕ
row_places = 512

-- the tags of marks; rows: two of atoms, one for each tag of each kind from 2 to 5, one of rule-defeated marks
abbrev pub tag_rows : ℕ
tag_rows = 200

abbrev pub rows : ℕ
rows = 803

-- the words that have a binary digit for each place
abbrev pub words : ℕ
words = 6424

-- the row of a kind and tag
unfoldable pub row_of : ℕ → ℕ → ℕ
row_of k t = cond (leb k 1) k (cond (leb k 5) (tag_rows * (k - 2) + t + 1) (rows - 1))

-- the place of three fields, of a literal, and of what five bytes spell
unfoldable pub place_of : ℕ → ℕ → ℕ → ℕ
place_of k t a = row_places * row_of k t + a

unfoldable pub place : Literal → ℕ
place l = place_of (kind l) (tag_field l) (atom_field l)

unfoldable pub place_at : List ℕ → ℕ
place_at bs = place_of (get_or bs 0 0) (number_at bs 1) (number_at bs 3)

-- each literal within these limits has a place of its own
pub record Placeable (F : Limits) : Type 0 where
  pub atoms : F.atoms < row_places
  pub tags : F.tags ≤ tag_rows
  pub numbers : F.numbers < row_places

-- place i is marked
unfoldable pub marked : List ℕ → ℕ → Bool
marked bits i = has (get_or bits (i / 64) 0) (i % 64)

-- exactly the places of the literals that occur in p are marked
pub record Marks (p : Program) (bits : List ℕ) : Type 0 where
  pub whole : length bits ≡ words
  pub mark : (i : ℕ) → marked bits i ≡ key_in i (map place (occurring p))

-- the marked places below i
unfoldable pub marked_below : List ℕ → ℕ → ℕ
marked_below bits zero = 0
marked_below bits (suc i) = cond (marked bits i) 1 0 + marked_below bits i

-- the number that belongs to a place, and to a literal
abbrev pub number_at_place : List ℕ → ℕ → ℕ
number_at_place bits i = marked_below bits i + 1

abbrev pub number_in : List ℕ → Literal → ℕ
number_in bits l = number_at_place bits (place l)

-- for each of n atoms from a on that is marked both ways, that it is never both
unfoldable pub pairs_from : List ℕ → ℕ → ℕ → GroundProgram
pairs_from bits a zero = []
pairs_from bits a (suc n) =
    cond (marked bits a && marked bits (row_places + a)) (never_both (number_at_place bits a) (number_at_place bits (row_places + a)) ∷ []) []
    ++ pairs_from bits (a + 1) n

-- an atom and its negation by the atom's number
abbrev pub positive_atom : ℕ → SignedAtom
positive_atom a = Positive (record { 0 = a })

abbrev pub negative_atom : ℕ → SignedAtom
negative_atom a = Negative (record { 0 = a })

-- the names of n atoms from a on, as `sign` has them, whose places from `row` on are marked
unfoldable pub names_from : List ℕ → (ℕ → SignedAtom) → ℕ → ℕ → ℕ → List Name
names_from bits sign row a zero = []
names_from bits sign row a (suc n) =
    cond (marked bits (row + a)) (record { atom = sign a; number = number_at_place bits (row + a) } ∷ []) []
    ++ names_from bits sign row (a + 1) n
