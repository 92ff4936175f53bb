-- What code that numbers literals holds: words of marks, and for each word a count.
-- In order: rows counted from a shift on; nothing marked or counted; places that a row of words gained; counts of single words, and sums
-- of them; counts of all words before; places in a slice; words that have places; a program whose literals have places; records one behind
-- the other, and the numbers of their literals; what these are made of, gathered in two arrays, and finished.
-- Assumes nothing.
use Rattle.std.specs.Prelude.{ℕ, zero, suc, ◌+◌, ◌*◌, ◌≤◌, ◌<◌, ◌≡◌, ◌||◌, List, [], ◌∷◌, ◌++◌, map, T, ltb, length, get_or, take, drop}
use Rattle.std.specs.Int.Count.{ones}
use Rattle.semantics.specs.Set.{each_of}
use Rattle.semantics.specs.Rule.{Program}
use Rattle.record.specs.Header.{head_count, positive_count, naf_count}
use Rattle.keys.specs.Keys.{key_in}
use Rattle.aspif_meaning.specs.Numbering.{occurring}
use Rattle.record_walk.specs.Code.{record_size}
use Rattle.aspif_place.specs.Code.{words, place, place_at, marked, marked_below, number_at_place}

-- from here on rows are counted while one is picked
abbrev pub shift : ℕ
shift = 399

-- nothing is marked, or counted
abbrev pub Empty : List ℕ → Type 0
Empty xs = (w : ℕ) → get_or xs w 0 ≡ 0

-- words d became e, as many: beside the places that were marked, those of ks are
pub record Gained (d e ks : List ℕ) : Type 0 where
  pub same : length e ≡ length d
  pub mark : (i : ℕ) → marked e i ≡ (key_in i ks || marked d i)

-- each word's count is that of its own marks
pub record Tallied (bits counts : List ℕ) : Type 0 where
  pub same : length counts ≡ length bits
  pub tally : (w : ℕ) → get_or counts w 0 ≡ ones (get_or bits w 0)

-- counts of so few words that their sum fits: a word has 64 places
pub record Few (counts : List ℕ) : Type 0 where
  pub short : length counts ≤ words
  pub low : (w : ℕ) → get_or counts w 0 ≤ 64

-- the sum of the first w counts
unfoldable pub sum_of : List ℕ → ℕ → ℕ
sum_of counts zero = 0
sum_of counts (suc w) = sum_of counts w + get_or counts w 0

-- counts d became e: in the place of each count is the sum of those before it
pub record Sums (d e : List ℕ) : Type 0 where
  pub same : length e ≡ length d
  pub sum : (w : ℕ) → w < length d → get_or e w 0 ≡ sum_of d w

-- each word's count is that of the marks below it
pub record Summed (bits counts : List ℕ) : Type 0 where
  pub same : length counts ≡ length bits
  pub sum : (w : ℕ) → w < length bits → get_or counts w 0 ≡ marked_below bits (64 * w)

-- the places of n literals, one behind the other from `at` on
unfoldable pub places_at : List ℕ → ℕ → ℕ → List ℕ
places_at s at zero = []
places_at s at (suc n) = place_at (drop at s) ∷ places_at s (at + 5) n

-- how many literals the rule's record that starts a part has
abbrev pub literal_count : List ℕ → ℕ
literal_count t = head_count t + positive_count t + naf_count t

-- n words have each of these places
abbrev pub Room : ℕ → List ℕ → Type 0
Room n ks = T (each_of (λ k. ltb k (64 * n)) ks)

-- each literal of the program has a place among the words
abbrev pub Placed : Program → Type 0
Placed p = T (each_of (λ l. ltb (place l) (64 * words)) (occurring p))

-- the length of the first n rules' records in t, one behind the other
unfoldable pub records_size : List ℕ → ℕ → ℕ
records_size t zero = 0
records_size t (suc n) = records_size t n + record_size (drop (records_size t n) t)

-- what stands behind them
abbrev pub record_part : List ℕ → ℕ → List ℕ
record_part t n = drop (records_size t n) t

-- how many literals they have
unfoldable pub records_literals : List ℕ → ℕ → ℕ
records_literals t zero = 0
records_literals t (suc n) = records_literals t n + literal_count (record_part t n)

-- they are whole, and none has more than 64 literals
pub record Records (t : List ℕ) (n : ℕ) : Type 0 where
  pub whole : (i : ℕ) → i < n → record_size (record_part t i) ≤ length (record_part t i)
  pub few : (i : ℕ) → i < n → literal_count (record_part t i) ≤ 64

-- each of their literals has a place among w words
abbrev pub Rooms : ℕ → List ℕ → ℕ → Type 0
Rooms w t n = (i : ℕ) → i < n → Room w (places_at (record_part t i) 7 (literal_count (record_part t i)))

-- the numbers of their literals, by the marks
unfoldable pub numbers_of : List ℕ → List ℕ → ℕ → List ℕ
numbers_of bits t zero = []
numbers_of bits t (suc n) = numbers_of bits t n ++ map (number_at_place bits) (places_at (record_part t n) 7 (literal_count (record_part t n)))

-- xs starts with ys
abbrev pub Front : List ℕ → List ℕ → Type 0
Front xs ys = take (length ys) xs ≡ ys

-- from two arrays' start on, what the numbers ns are made of: each is one more than the marks of its mask and its word's count, and none is
-- above the places
pub record Gathered (masks numbers ns : List ℕ) : Type 0 where
  pub sum : (k : ℕ) → k < length ns → get_or numbers k 0 + ones (get_or masks k 0) + 1 ≡ get_or ns k 0
  pub low : (k : ℕ) → k < length ns → get_or ns k 0 ≤ 64 * words

-- arrays d and e became f and g: behind any `to` numbers that were gathered in those, xs are gathered in these
pub record Gathers (d e f g : List ℕ) (to : ℕ) (xs : List ℕ) : Type 0 where
  pub behind : (ns : List ℕ) → length ns ≡ to → Gathered d e ns → Gathered f g (ns ++ xs)

-- the first n numbers that two arrays make are not above the places
abbrev pub Low : List ℕ → List ℕ → ℕ → Type 0
Low masks numbers n = (k : ℕ) → k < n → get_or numbers k 0 + ones (get_or masks k 0) + 1 ≤ 64 * words

-- words' counts d became e: each of the first n is the number that it makes with its mask
pub record Finished (masks d e : List ℕ) (n : ℕ) : Type 0 where
  pub number : (k : ℕ) → k < n → get_or e k 0 ≡ get_or d k 0 + ones (get_or masks k 0) + 1
