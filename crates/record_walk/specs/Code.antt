-- How code goes from one record to the next, and what it takes from a record (01, "Records"; 02, Ask 2).
-- In order: a slice that holds a program, or a file; a record's length; a record at the start of a slice; a rule's tag and options.
-- Assumes nothing.
use Rattle.std.specs.Prelude.{ℕ, zero, suc, ◌+◌, ◌*◌, ◌≡◌, cond, List, [], ◌∷◌, ◌++◌, eqb, get_or}
use Rattle.buffer.specs.Bytes.{number_at}
use Rattle.literal.specs.declared.Tag.{Tag}
use Rattle.literal.specs.declared.SignedAtom.{SignedAtom}
use Rattle.literal.specs.Literal.{signed_atom}
use Rattle.semantics.specs.Rule.{Rule, Program}
use Rattle.semantics.specs.Item.{Item}
use Rattle.record.specs.Header.{override_letter, opposition_letter, letter_of, head_count, positive_count, naf_count}
use Rattle.record.specs.Layout.{encoded_rule, encoded_program, encoded_file}

-- s is the encoding of a program, and P holds of that: what a loop over its records asks for
pub record Holds (P : Program → Type 0) (s : List ℕ) : Type 0 where
  pub program : Program
  pub bytes : s ≡ encoded_program program
  pub asked : P program

-- nothing is asked of it
abbrev pub Any : Program → Type 0
Any p = Unit

-- s is the encoding of a file's items, and P holds of those
pub record HoldsFile (P : List Item → Type 0) (s : List ℕ) : Type 0 where
  pub items : List Item
  pub bytes : s ≡ encoded_file items
  pub asked : P items

-- the length of the rule's record that starts a part, by its counts
abbrev pub record_size : List ℕ → ℕ
record_size t = 7 + 5 * (head_count t + positive_count t + naf_count t)

-- the length of the item's record that starts a part, by its letter
abbrev pub item_size : List ℕ → ℕ
item_size t = cond (eqb (letter_of t) override_letter) 6 (cond (eqb (letter_of t) opposition_letter) 12 (record_size t))

-- the rule's record stands at the start of s
pub record Starts (s : List ℕ) (r : Rule) : Type 0 where
  pub rest : List ℕ
  pub bytes : s ≡ encoded_rule r ++ rest

-- the tag of the record that starts s
unfoldable pub tag_at : List ℕ → Tag
tag_at s = record { 0 = number_at s 2 }

-- the option that five bytes spell, from `at` on; and n options one behind the other
unfoldable pub option_at : List ℕ → ℕ → SignedAtom
option_at s at = signed_atom (get_or s at 0) (number_at s (at + 3))

unfoldable pub options_at : List ℕ → ℕ → ℕ → List SignedAtom
options_at s at zero = []
options_at s at (suc n) = option_at s at ∷ options_at s (at + 5) n
