-- Lists of bytes, and numbers in them (01, "Records": fields are unsigned, highest byte first).
-- In order: a list of bytes; a number's bytes and back, for fields of one, two and four bytes; eight bytes of a number, the lowest first.
-- Not here: which fields a record has (`record`, `set`).
-- Assumes nothing.
use Rattle.std.specs.Prelude.{ℕ, ◌+◌, ◌*◌, ◌/◌, ◌%◌, ◌<◌, List, [], ◌∷◌, ◌++◌, get_or}

-- every element is a byte; past its end a list reads as 0, which is one too
abbrev pub Bytes : List ℕ → Type 0
Bytes bs = (i : ℕ) → get_or bs i 0 < 256

-- a field of two bytes, and of four
abbrev pub two_bytes : ℕ → List ℕ
two_bytes n = n / 256 ∷ n % 256 ∷ []

abbrev pub four_bytes : ℕ → List ℕ
four_bytes n = two_bytes (n / 65536) ++ two_bytes (n % 65536)

-- the number that two bytes spell
abbrev pub number : ℕ → ℕ → ℕ
number high low = high * 256 + low

-- the two-byte field of bs that starts at i
abbrev pub number_at : List ℕ → ℕ → ℕ
number_at bs i = number (get_or bs i 0) (get_or bs (i + 1) 0)

-- the eight lowest bytes of v, the lowest first
abbrev pub eight_bytes : ℕ → List ℕ
eight_bytes v =
    v % 256 ∷ v / 256 % 256 ∷ v / 65536 % 256 ∷ v / 16777216 % 256 ∷ v / 4294967296 % 256 ∷ v / 1099511627776 % 256 ∷ v / 281474976710656 % 256
    ∷ v / 72057594037927936 % 256 ∷ []
