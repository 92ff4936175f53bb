-- The lines of constraints and of names as code writes them: place by place of a row of atoms.
-- In order: constraints: which atoms have one, how a line starts, what a place has, all lines; names, of atoms or, where true, of their negations: the
-- letter, where the row starts, a line, what a place has, all lines; what places in a row have, one behind the other.
-- Assumes nothing.
use Rattle.std.specs.Prelude.{ℕ, zero, suc, ◌+◌, Bool, true, false, cond, ◌&&◌, List, [], ◌∷◌, ◌++◌, map}
use Rattle.literal.specs.declared.SignedAtom.{SignedAtom}
use Rattle.aspif_meaning.specs.Program.{never_both}
use Rattle.aspif_text.specs.Text.{blank, rule, output, rule_line, output_line, output_of, lines}
use Rattle.aspif_place.specs.Code.{row_places, marked, number_at_place, pairs_from, positive_atom, negative_atom, names_from}

-- the atom is marked both ways
unfoldable pub both_ways : List ℕ → ℕ → Bool
both_ways bits a = marked bits a && marked bits (row_places + a)

-- how the line of a constraint starts: `1 0 0 0 2`
abbrev pub pair_start : List ℕ
pair_start = 0x31 ∷ blank ∷ 0x30 ∷ blank ∷ 0x30 ∷ blank ∷ 0x30 ∷ blank ∷ 0x32 ∷ []

-- the line of the constraint that the place of an atom has, if it has one
unfoldable pub pair_at : List ℕ → ℕ → List ℕ
pair_at bits a =
    cond (both_ways bits a) (rule_line (never_both (number_at_place bits a) (number_at_place bits (row_places + a)))) []

-- the lines of all constraints
unfoldable pub pair_lines : List ℕ → List ℕ
pair_lines bits = lines (map rule (pairs_from bits 0 row_places))

-- an atom, or its negation, by the atom's number; its letter; where its row starts
unfoldable pub signed : Bool → ℕ → SignedAtom
signed false = positive_atom
signed true = negative_atom

unfoldable pub letter_of : Bool → ℕ
letter_of false = 0x70
letter_of true = 0x6E

unfoldable pub row_from : Bool → ℕ
row_from false = 0
row_from true = row_places

-- the line that names the number n
unfoldable pub name_line : Bool → ℕ → ℕ → List ℕ
name_line negated a n = output_line (output_of (record { atom = signed negated a; number = n }))

-- the line of the name that a place has, if it has one
unfoldable pub name_at : List ℕ → Bool → ℕ → List ℕ
name_at bits negated a = cond (marked bits (row_from negated + a)) (name_line negated a (number_at_place bits (row_from negated + a))) []

-- the lines of all names
unfoldable pub name_lines : List ℕ → Bool → List ℕ
name_lines bits negated = lines (map output (map output_of (names_from bits (signed negated) (row_from negated) 0 row_places)))

-- what n places from a on have
unfoldable pub places_from : (ℕ → List ℕ) → ℕ → ℕ → List ℕ
places_from f a zero = []
places_from f a (suc n) = f a ++ places_from f (a + 1) n
