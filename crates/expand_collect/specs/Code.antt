-- What is collected of a file's items: the rules' records, one behind the other, and tables of the overrides and oppositions.
-- In order: what code holds, and how much room there is; what items came to; a record that has room; what one item adds; items that have room.
-- Assumes nothing.
use Rattle.std.specs.Prelude.{ℕ, ◌+◌, ◌≤◌, ◌<◌, ◌≡◌, Bool, true, ◌&&◌, List, [], ◌∷◌, ◌++◌, T, ltb, length}
use Rattle.buffer.specs.Bytes.{number_at}
use Rattle.buffer.specs.Write.{Wrote}
use Rattle.semantics.specs.Set.{each_of}
use Rattle.semantics.specs.Item.{Item, rule, override, opposition, rules, overrides, oppositions}
use Rattle.record.specs.Header.{override_letter, opposition_letter, letter_of}
use Rattle.record.specs.Layout.{encoded_item, encoded_rules}
use Rattle.record_walk.specs.Code.{record_size, option_at}
use Rattle.expand_tables.specs.Added.{each_pair}
use Rattle.expand_tables.specs.Code.{place_of, Tables, Pairs}
use Rattle.expand_collect.specs.declared.Sheets.{Sheets}

-- what code holds: the slice that is written, the tables, and how far it is
pub record State : Type 0 where
  pub out : List ℕ
  pub up : List ℕ
  pub low : List ℕ
  pub lowers : List ℕ
  pub ones : List ℕ
  pub others : List ℕ
  pub held : Sheets

abbrev pub state : List ℕ → List ℕ → List ℕ → List ℕ → List ℕ → List ℕ → Sheets → State
state out up low lowers ones others h =
    record { out = out; up = up; low = low; lowers = lowers; ones = ones; others = others; held = h }

-- the lengths of the slice and the tables
pub record Room : Type 0 where
  pub bytes : ℕ
  pub uppers : ℕ
  pub losers : ℕ
  pub overrides : ℕ
  pub ones : ℕ
  pub others : ℕ

abbrev pub room_of : List ℕ → List ℕ → List ℕ → List ℕ → List ℕ → List ℕ → Room
room_of out up low lowers ones others =
    record {
      bytes = length out;
      uppers = length up;
      losers = length low;
      overrides = length lowers;
      ones = length ones;
      others = length others;
    }

abbrev pub state_room : State → Room
state_room d = room_of d.out d.up d.low d.lowers d.ones d.others

-- what items came to: the rules' records stand at the slice's start, and the tables are those of the overrides and of the oppositions, each
-- pair once
pub record Collected (out₀ : List ℕ) (is : List Item) (d : State) : Type 0 where
  pub bytes : Wrote out₀ d.out 0 (encoded_rules (rules is)) d.held.to
  pub same : length d.out ≡ length out₀
  pub counted : d.held.rules ≡ length (rules is)
  pub overriding : d.held.overrides ≡ length (overrides is)
  pub tables : Tables (overrides is) d.up d.low d.lowers
  pub opposing : d.held.pairs ≡ length (each_pair [] (oppositions is))
  pub pairs : Pairs (each_pair [] (oppositions is)) d.ones d.others

-- a record that starts a part has room: an override's, an opposition's, a rule's
pub record OverrideFits (part : List ℕ) (r : Room) (h : Sheets) : Type 0 where
  pub long : 6 ≤ length part
  pub upper : number_at part 2 < r.uppers
  pub lower : number_at part 4 < r.losers
  pub room : h.overrides < r.overrides
  pub few : h.overrides < 64

pub record OppositionFits (part : List ℕ) (r : Room) (h : Sheets) : Type 0 where
  pub long : 12 ≤ length part
  pub one : place_of (option_at part 2) < 65536
  pub other : place_of (option_at part 7) < 65536
  pub room_one : h.pairs < r.ones
  pub room_other : h.pairs < r.others

pub record RuleFits (part : List ℕ) (r : Room) (h : Sheets) : Type 0 where
  pub whole : record_size part ≤ length part
  pub room : h.to + record_size part ≤ r.bytes
  pub few : h.rules < 65536

pub record Collectable (part : List ℕ) (r : Room) (h : Sheets) : Type 0 where
  pub some : 1 ≤ length part
  pub over : letter_of part ≡ override_letter → OverrideFits part r h
  pub oppo : letter_of part ≡ opposition_letter → OppositionFits part r h
  pub other : (letter_of part ≡ override_letter → ⊥) → (letter_of part ≡ opposition_letter → ⊥) → RuleFits part r h

-- the item whose record starts the part is collected too
pub record Collects (part : List ℕ) (d e : State) : Type 0 where
  pub same : state_room e ≡ state_room d
  pub more : (out₀ : List ℕ) (is : List Item) (i : Item) (rest : List ℕ) → part ≡ encoded_item i ++ rest → Collected out₀ is d → Collected out₀ (is ++ i ∷ []) e

-- an item whose tags and options have places
unfoldable pub placed_item : ℕ → ℕ → Item → Bool
placed_item uppers losers (rule r) = true
placed_item uppers losers (override o) = ltb o.upper.0 uppers && ltb o.lower.0 losers
placed_item uppers losers (opposition x) = ltb (place_of x.one) 65536 && ltb (place_of x.other) 65536

-- items that have room
pub record Collecting (r : Room) (is : List Item) : Type 0 where
  pub fits : length (encoded_rules (rules is)) ≤ r.bytes
  pub written : length (rules is) < 65536
  pub overriding : length (overrides is) ≤ r.overrides
  pub few : length (overrides is) ≤ 64
  pub one : length (oppositions is) ≤ r.ones
  pub other : length (oppositions is) ≤ r.others
  pub placed : T (each_of (placed_item r.uppers r.losers) is)
