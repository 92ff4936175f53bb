-- The state of an assembly (02, Ask 4): what it says, its bytes, and which bytes are a state.
-- In order: what a state keeps of a rule's record; stages; the length of what is held; shapes and stages within a form's limits; a stage's
-- bytes; the stage that bytes say.
-- A shape is all that answers need of a rule, so no call looks at the records in the buffer. Byte 1 and bytes 4 to 7 of a state are kept free.
-- Assumes nothing.
use Rattle.std.specs.Prelude.{ℕ, zero, suc, ◌+◌, ◌-◌, ◌*◌, ◌/◌, ◌%◌, Bool, true, cond, not, ◌&&◌, ◌||◌, List, [], ◌∷◌, ◌++◌, map, leb, eqb, length, get_or, replicate}
use Rattle.buffer.specs.Bytes.{two_bytes, number_at}
use Rattle.literal.specs.declared.Limits.{Limits}
use Rattle.semantics.specs.Set.{each_of}
use Rattle.record.specs.Header.{defeasible_letter, letter_of, head_count, positive_count, naf_count}

-- what a state keeps of a rule: whether it is defeasible, and how many head and body literals it has
pub record Shape : Type 0 where
  pub defeasible : Bool
  pub heads : ℕ
  pub body : ℕ

-- of a rule's record, by its letter and counts
unfoldable pub shape_of : List ℕ → Shape
shape_of t = record { defeasible = eqb (letter_of t) defeasible_letter; heads = head_count t; body = positive_count t + naf_count t }

-- nothing was begun; an open assembly; a closed one, whose rules count as still held
pub data Stage : Type 0 where
  before : Stage
  opened : List Shape → Stage
  closed : List Shape → Stage

-- the shapes of the rules held, in order
unfoldable pub shapes : Stage → List Shape
shapes before = []
shapes (opened ss) = ss
shapes (closed ss) = ss

-- the bytes of a rule's record, and of the records of all rules held
abbrev pub shape_length : Shape → ℕ
shape_length s = 7 + 5 * (s.heads + s.body)

unfoldable pub held_length : List Shape → ℕ
held_length [] = 0
held_length (s ∷ ss) = shape_length s + held_length ss

-- the shape of a rule within the form's limits: a defeasible one has a head literal
unfoldable pub keeps_shape : Limits → Shape → Bool
keeps_shape F s = leb s.heads F.heads && (leb s.body (F.positives + F.nafs) && (not s.defeasible || leb 1 s.heads))

unfoldable pub keeps_stage : Limits → Stage → Bool
keeps_stage F s = leb (length (shapes s)) F.rules && each_of (keeps_shape F) (shapes s)

-- a state's bytes: eight, and two rows with a byte for each rule that a form takes
abbrev pub state_bytes : Limits → ℕ
state_bytes F = 8 + 2 * F.rules

unfoldable pub stage_byte : Stage → ℕ
stage_byte before = 0
stage_byte (opened ss) = 1
stage_byte (closed ss) = 2

-- the stage, and how many rules are held (2 bytes)
abbrev pub state_header : ℕ → ℕ → List ℕ
state_header k n = k ∷ 0 ∷ (two_bytes n ++ (0 ∷ 0 ∷ 0 ∷ 0 ∷ []))

-- a rule's byte in the first row: its head count; of a defeasible rule, which has one or more, 127 is added
unfoldable pub heads_byte : Shape → ℕ
heads_byte s = cond s.defeasible (127 + s.heads) s.heads

-- and in the second row: its body literals
abbrev pub body_byte : Shape → ℕ
body_byte s = s.body

-- a row: a byte for each rule held, and zeros
unfoldable pub row : Limits → List ℕ → List ℕ
row F bs = bs ++ replicate (F.rules - length bs) 0

unfoldable pub encoded_stage : Limits → Stage → List ℕ
encoded_stage F s =
    state_header (stage_byte s) (length (shapes s)) ++ (row F (map heads_byte (shapes s)) ++ row F (map body_byte (shapes s)))

-- the shape that the bytes of two rows say
unfoldable pub shape_at : ℕ → ℕ → Shape
shape_at b c = record { defeasible = leb 128 b; heads = b % 128 + b / 128; body = c }

-- n shapes, from a place of the first row and the place of the second on
unfoldable pub shapes_at : List ℕ → ℕ → ℕ → ℕ → List Shape
shapes_at bs at beside zero = []
shapes_at bs at beside (suc n) = shape_at (get_or bs at 0) (get_or bs beside 0) ∷ shapes_at bs (at + 1) (beside + 1) n

-- n zeros from a place on
unfoldable pub clear_at : List ℕ → ℕ → ℕ → Bool
clear_at bs at zero = true
clear_at bs at (suc n) = eqb (get_or bs at 0) 0 && clear_at bs (at + 1) n

-- how many rules are held, by the header
abbrev pub count_at : List ℕ → ℕ
count_at bs = number_at bs 2

-- the count is one of the form's; before the first begin it is 0
unfoldable pub count_right : Limits → List ℕ → Bool
count_right F bs = cond (eqb (get_or bs 0 0) 0) (eqb (count_at bs) 0) (leb (count_at bs) F.rules)

-- as many bytes as a state has, and its header
unfoldable pub is_headed : Limits → List ℕ → Bool
is_headed F bs =
    eqb (length bs) (state_bytes F)
    && (leb (get_or bs 0 0) 2 && (eqb (get_or bs 1 0) 0 && (eqb (number_at bs 4) 0 && (eqb (number_at bs 6) 0 && count_right F bs))))

-- the shapes of the rules held, by the two rows
abbrev pub held_shapes : Limits → List ℕ → List Shape
held_shapes F bs = shapes_at bs 8 (8 + F.rules) (count_at bs)

-- the header, the shapes of the rules held, and zeros behind them in each row: one pass over the bytes tells
unfoldable pub is_state : Limits → List ℕ → Bool
is_state F bs =
    is_headed F bs
    && (each_of (keeps_shape F) (held_shapes F bs)
    && (clear_at bs (8 + count_at bs) (F.rules - count_at bs) && clear_at bs (8 + F.rules + count_at bs) (F.rules - count_at bs)))

-- the stage that a state's first byte says
unfoldable pub stage_with : ℕ → List Shape → Stage
stage_with zero ss = before
stage_with (suc zero) ss = opened ss
stage_with (suc (suc n)) ss = closed ss

-- the stage that bytes say: what is no state counts as a state before the first begin
unfoldable pub stage_of : Limits → List ℕ → Stage
stage_of F bs = cond (is_state F bs) (stage_with (get_or bs 0 0) (held_shapes F bs)) before
