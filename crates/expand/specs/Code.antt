-- A source's normal form (02, Ask 2: "all meanings now read the expanded program"): its rules and those that its sheets append, as a program
-- without sheets.
-- In order: items that can be expanded; forms whose files can be, in an array of our own; items of which something is asked besides; the
-- arrays that it takes; the rules with the tables of the sheets; the normal form, and what goes on with it.
-- Assumes nothing.
use Rattle.std.specs.Prelude.{ℕ, ◌+◌, ◌*◌, ◌≤◌, ◌<◌, ◌≡◌, List, [], T, length, get_or, take}
use Rattle.std.specs.Borrow.{Bor, MutBor}
use Rattle.buffer.specs.Write.{Wrote}
use Rattle.literal.specs.declared.Limits.{Limits}
use Rattle.semantics.specs.Rule.{Program}
use Rattle.semantics.specs.Item.{Item, rules, overrides, oppositions, expanded}
use Rattle.semantics.specs.Form.{keeps_items, most_appended}
use Rattle.record.specs.Layout.{encoded_rules, encoded_program}
use Rattle.record_walk.specs.Code.{HoldsFile}
use Rattle.expand_tables.specs.Added.{each_pair}
use Rattle.expand_tables.specs.Code.{tag_places, option_places, sheet_places, Tables, Pairs}
use Rattle.expand_collect.specs.Code.{State}

-- items within the limits of a form whose tags, options and sheets have places, whose rules with those that are appended fit two bytes; and
-- so many bytes are enough for all that may be appended
pub record Expandable (most : ℕ) (is : List Item) : Type 0 where
  pub form : Limits
  pub keeps : T (keeps_items form is)
  pub sheets : form.sheets ≤ sheet_places
  pub tags : form.tags < tag_places
  pub atoms : 2 * form.atoms + 1 < option_places
  pub room : length (encoded_rules (rules is)) + 17 * (2 * (sheet_places * sheet_places)) + 4 ≤ most
  pub rules : form.rules + 2 * (form.sheets * form.sheets) < 65536

-- so many bytes are enough for the normal form of any source
abbrev pub normal_bytes : ℕ
normal_bytes = 203652

-- a form whose files can be expanded in so many bytes
pub record Normalizable (F : Limits) : Type 0 where
  pub sheets : F.sheets ≤ sheet_places
  pub tags : F.tags < tag_places
  pub atoms : 2 * F.atoms + 1 < option_places
  pub room : F.length + 17 * (2 * (sheet_places * sheet_places)) ≤ normal_bytes
  pub rules : F.rules + most_appended F < 65536

-- items that can be expanded, and P holds of the program that they mean
pub record Meaning (P : Program → Type 0) (most : ℕ) (is : List Item) : Type 0 where
  pub expandable : Expandable most is
  pub asked : P (expanded is)

-- arrays with a place for each tag, each override and each opposition; the tables of masks are empty
pub record Arrays (up low lowers ones others : List ℕ) : Type 0 where
  pub up_long : length up ≡ tag_places
  pub low_long : length low ≡ tag_places
  pub lowers_long : length lowers ≡ sheet_places
  pub ones_long : length ones ≡ sheet_places
  pub others_long : length others ≡ sheet_places
  pub up_empty : (i : ℕ) → get_or up i 0 ≡ 0
  pub low_empty : (i : ℕ) → get_or low i 0 ≡ 0

-- a slice starts with the program of the items' rules, and the tables are those of their overrides and of their oppositions, each pair once
pub record Fronted (came : List ℕ) (is : List Item) (d : State) : Type 0 where
  pub bytes : Wrote came d.out 0 (encoded_program (rules is)) (d.held.to + 4)
  pub same : length d.out ≡ length came
  pub behind : d.held.to ≡ length (encoded_rules (rules is))
  pub counted : d.held.rules ≡ length (rules is)
  pub overriding : d.held.overrides ≡ length (overrides is)
  pub tables : Tables (overrides is) d.up d.low d.lowers
  pub opposing : d.held.pairs ≡ length (each_pair [] (oppositions is))
  pub pairs : Pairs (each_pair [] (oppositions is)) d.ones d.others

-- so it is with items that can be expanded; and there are empty tables of heads
pub record Appendable (d : State) (win lose : List ℕ) : Type 0 where
  pub came : List ℕ
  pub items : List Item
  pub asked : Expandable (length came) items
  pub fronted : Fronted came items d
  pub up_long : length d.up ≡ tag_places
  pub low_long : length d.low ≡ tag_places
  pub lowers_long : length d.lowers ≡ sheet_places
  pub ones_long : length d.ones ≡ sheet_places
  pub others_long : length d.others ≡ sheet_places
  pub win_long : length win ≡ option_places
  pub lose_long : length lose ≡ option_places
  pub win_empty : (i : ℕ) → get_or win i 0 ≡ 0
  pub lose_empty : (i : ℕ) → get_or lose i 0 ≡ 0

-- a slice d became e, as long: its first r bytes are the normal form of the items, and behind those may be anything
pub record Normal (d : List ℕ) (is : List Item) (r : ℕ) (e : List ℕ) : Type 0 where
  pub size : r ≡ length (encoded_program (expanded is))
  pub same : length e ≡ length d
  pub bytes : take r e ≡ encoded_program (expanded is)

-- t is the program that the file in s means
abbrev pub NormalOf : List ℕ → List ℕ → Type 0
NormalOf s t = (w : HoldsFile (Expandable normal_bytes) s) → t ≡ encoded_program (expanded w.items)

-- of the normal form of s, and of a buffer that was `out` and is `end`, a call with this `post` made r
pub record Went {R : Type 0} (post : Bor (List ℕ) → MutBor (List ℕ) → R → MutBor (List ℕ) → Type 0) (s out : List ℕ) (r : R) (end : List ℕ) : Type 0 where
  pub normal : Bor (List ℕ)
  pub lent : MutBor (List ℕ)
  pub left : MutBor (List ℕ)
  pub means : NormalOf s normal.now
  pub came : lent.now ≡ out
  pub called : post normal lent r left
  pub gone : left.now ≡ end
