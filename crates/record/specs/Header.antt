-- The bytes of marks, and where the fields of a rule's header stand (01, "Records").
-- In order: the letters and the colon; the letter of a record; the three counts of a rule's record.
-- Not here: the tag, `number_at t 2` (`buffer`).
-- Assumes nothing.
use Rattle.std.specs.Prelude.{ℕ, List, get_or}

-- S, D and E: a strict rule, a defeasible rule, the end
abbrev pub strict_letter : ℕ
strict_letter = 0x53

abbrev pub defeasible_letter : ℕ
defeasible_letter = 0x44

abbrev pub end_letter : ℕ
end_letter = 0x45

-- O and X: an override, an opposition
abbrev pub override_letter : ℕ
override_letter = 0x4F

abbrev pub opposition_letter : ℕ
opposition_letter = 0x58

-- A and R: a set, a refusal
abbrev pub set_letter : ℕ
set_letter = 0x41

abbrev pub refusal_letter : ℕ
refusal_letter = 0x52

-- the second byte of each mark; the first is the record's letter
abbrev pub colon : ℕ
colon = 0x3A

-- the letter of the record that starts t
abbrev pub letter_of : List ℕ → ℕ
letter_of t = get_or t 0 0

-- the counts of its head, positive and naf literals
abbrev pub head_count : List ℕ → ℕ
head_count t = get_or t 4 0

abbrev pub positive_count : List ℕ → ℕ
positive_count t = get_or t 5 0

abbrev pub naf_count : List ℕ → ℕ
naf_count t = get_or t 6 0
