-- Aspif texts as bytes (02, Ask 1), and the text of a plain program.
-- In order: statements; a field and fields in a row; the lines of a rule and of a name; a text; a plain program's statements and its text.
-- Not here: what a text says (`Reading`), which number a literal has (`aspif_meaning`).
-- Assumes nothing.
use Rattle.std.specs.Prelude.{ℕ, ◌+◌, Bool, true, false, List, [], ◌∷◌, ◌++◌, map, length}
use Rattle.decimal.specs.Decimal.{decimal}
use Rattle.literal.specs.declared.SignedAtom.{SignedAtom}
use Rattle.literal.specs.declared.SignedAtom.TheVariants.{Positive, Negative}
use Rattle.semantics.specs.Rule.{Program}
use Rattle.aspif_meaning.specs.Ground.{GroundRule}
use Rattle.aspif_meaning.specs.Program.{ground, Name, names}

-- a name that is shown where each positive number is in an answer set and none under naf
pub record Output : Type 0 where
  pub name : List ℕ
  pub positive : List ℕ
  pub naf : List ℕ

-- what a line states
pub data Statement : Type 0 where
  rule : GroundRule → Statement
  output : Output → Statement

abbrev pub blank : ℕ
blank = 0x20

abbrev pub minus : ℕ
minus = 0x2D

abbrev pub line_end : ℕ
line_end = 0x0A

-- a number with a blank before it; one under naf is negative
unfoldable pub field : Bool → ℕ → List ℕ
field false n = blank ∷ decimal n
field true n = blank ∷ minus ∷ decimal n

unfoldable pub fields : Bool → List ℕ → List ℕ
fields b [] = []
fields b (n ∷ ns) = field b n ++ fields b ns

-- a body: its count, the positive numbers, then those under naf; and the line's end
unfoldable pub body_text : List ℕ → List ℕ → List ℕ
body_text ps ns = field false (length ps + length ns) ++ (fields false ps ++ (fields true ns ++ (line_end ∷ [])))

-- a rule: `1`, `0` for a head of which some number holds, the head's count and numbers, `0` for a body without weights, the body
unfoldable pub rule_line : GroundRule → List ℕ
rule_line r =
    0x31 ∷ blank ∷ 0x30 ∷ (field false (length r.head) ++ (fields false r.head ++ (blank ∷ 0x30 ∷ body_text r.positive r.naf)))

-- a name: `4`, its length, the name, the body
unfoldable pub output_line : Output → List ℕ
output_line o = 0x34 ∷ (field false (length o.name) ++ (blank ∷ (o.name ++ body_text o.positive o.naf)))

unfoldable pub line : Statement → List ℕ
line (rule r) = rule_line r
line (output o) = output_line o

unfoldable pub lines : List Statement → List ℕ
lines [] = []
lines (x ∷ xs) = line x ++ lines xs

-- `asp 1 0 0`, a line
unfoldable pub first_line : List ℕ
first_line = 0x61 ∷ 0x73 ∷ 0x70 ∷ blank ∷ 0x31 ∷ blank ∷ 0x30 ∷ blank ∷ 0x30 ∷ line_end ∷ []

-- `0`, a line
unfoldable pub last_line : List ℕ
last_line = 0x30 ∷ line_end ∷ []

unfoldable pub text_of : List Statement → List ℕ
text_of xs = first_line ++ (lines xs ++ last_line)

-- `p` or `n` with the atom
unfoldable pub name_text : SignedAtom → List ℕ
name_text (Positive a) = 0x70 ∷ decimal a.0
name_text (Negative a) = 0x6E ∷ decimal a.0

unfoldable pub output_of : Name → Output
output_of x = record { name = name_text x.atom; positive = x.number ∷ []; naf = [] }

-- the rules and constraints of a plain program, then its names
unfoldable pub statements : Program → List Statement
statements p = map rule (ground p) ++ map output (map output_of (names p))

-- the text of a plain program
unfoldable pub aspif_text : Program → List ℕ
aspif_text p = text_of (statements p)
