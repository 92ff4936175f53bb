-- How code counts the positions of masks: a tally has a mask for each binary digit of the counts. It decides which open literal the
-- search tries, and so how long the search takes, never what it finds.
-- In order: a mask counted; the positions that have a digit; the positions that are counted most often.
-- Assumes nothing.
use Rattle.std.specs.Prelude.{ℕ, cond, eqb}
use Rattle.std.specs.Int.Bits.{bit_and, bit_xor}
use Rattle.check_pick.specs.declared.Tally.{Tally}

-- each position of m counted once more: a digit changes where all below it were set
unfoldable pub tallied : Tally → ℕ → Tally
tallied t m =
    let c1 = bit_and t.d0 m in
    let c2 = bit_and t.d1 c1 in
    let c3 = bit_and t.d2 c2 in
    let c4 = bit_and t.d3 c3 in
    let c5 = bit_and t.d4 c4 in
    let c6 = bit_and t.d5 c5 in
    let c7 = bit_and t.d6 c6 in
    record {
      d0 = bit_xor t.d0 m;
      d1 = bit_xor t.d1 c1;
      d2 = bit_xor t.d2 c2;
      d3 = bit_xor t.d3 c3;
      d4 = bit_xor t.d4 c4;
      d5 = bit_xor t.d5 c5;
      d6 = bit_xor t.d6 c6;
      d7 = bit_xor t.d7 c7;
    }

-- the positions of m that have the digit, or all of m where none has
unfoldable pub refined : ℕ → ℕ → ℕ
refined m digit = cond (eqb (bit_and m digit) 0) m (bit_and m digit)

-- the positions of m with the greatest counts, from the highest digit
unfoldable pub most_of : Tally → ℕ → ℕ
most_of t m =
    refined (refined (refined (refined (refined (refined (refined (refined m t.d7) t.d6) t.d5) t.d4) t.d3) t.d2) t.d1) t.d0
