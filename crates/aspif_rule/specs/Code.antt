-- How code takes a rule's numbers from its record, and what it asks of the marks and counts by which it numbers.
-- In order: marks and counts that are ready; numbers in a slice; a rule in numbers, and the start of its line; a length that was
-- measured; a rule in numbers that were looked up before, and the lines of several.
-- Assumes nothing.
use Rattle.std.specs.Prelude.{ℕ, zero, suc, ◌+◌, ◌*◌, ◌≤◌, ◌≡◌, false, List, [], ◌∷◌, ◌++◌, map, length, take, drop}
use Rattle.record.specs.Header.{head_count, positive_count, naf_count}
use Rattle.aspif_meaning.specs.Ground.{GroundRule}
use Rattle.aspif_text.specs.Text.{blank, field, fields, rule_line}
use Rattle.aspif_place.specs.Code.{words, number_at_place}
use Rattle.aspif_number.specs.Code.{Summed, places_at, record_part, records_literals}

-- there is a word for each place, with the count of the marks below it
pub record Ready (bits counts : List ℕ) : Type 0 where
  pub whole : length bits ≡ words
  pub summed : Summed bits counts

-- the numbers of n literals, one behind the other from `at` on
unfoldable pub numbers_at : List ℕ → List ℕ → ℕ → ℕ → List ℕ
numbers_at bits s at n = map (number_at_place bits) (places_at s at n)

-- the rule whose record starts t, in numbers
unfoldable pub ground_at : List ℕ → List ℕ → GroundRule
ground_at bits t =
    record {
      head = numbers_at bits t 7 (head_count t);
      positive = numbers_at bits t (7 + 5 * head_count t) (positive_count t);
      naf = numbers_at bits t (7 + 5 * (head_count t + positive_count t)) (naf_count t);
    }

-- its line before the `0` of a body without weights, by the numbers of its head
unfoldable pub head_text : List ℕ → List ℕ
head_text hs = 0x31 ∷ blank ∷ 0x30 ∷ (field false (length hs) ++ fields false hs)

-- r is the length of bs, and at most so much: for sums of lengths
pub record Long (r : ℕ) (bs : List ℕ) (most : ℕ) : Type 0 where
  pub long : r ≡ length bs
  pub short : r ≤ most

-- r is what a line has besides the fields of its numbers: 6 bytes, a minus for each naf literal, the counts' fields
pub record CountsLong (heads positives nafs r : ℕ) : Type 0 where
  pub long : r ≡ 6 + nafs + (length (field false heads) + length (field false (positives + nafs)))
  pub short : r ≤ 28 + nafs

-- the rule whose record starts t, its numbers taken from the front of ns
unfoldable pub ground_of : List ℕ → List ℕ → GroundRule
ground_of t ns =
    record {
      head = take (head_count t) ns;
      positive = take (positive_count t) (drop (head_count t) ns);
      naf = take (naf_count t) (drop (head_count t + positive_count t) ns);
    }

-- the lines of the first n rules in t, their numbers taken from the front of ns
unfoldable pub lines_of : List ℕ → List ℕ → ℕ → List ℕ
lines_of t ns zero = []
lines_of t ns (suc n) = lines_of t ns n ++ rule_line (ground_of (record_part t n) (drop (records_literals t n) ns))

-- the same lines by the marks
unfoldable pub lines_at : List ℕ → List ℕ → ℕ → List ℕ
lines_at bits t zero = []
lines_at bits t (suc n) = lines_at bits t n ++ rule_line (ground_at bits (record_part t n))
