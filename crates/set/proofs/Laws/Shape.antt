-- Laws of a set's shape: its tests, one after another, and what a right shape says. Assumes nothing.
use Prim.Native.Nat.{ℕ, ◌+◌, ◌*◌, ◌≤◌, ◌<◌}
use mathlib.Core.Bool.{true, false, ◌&&◌}
use mathlib.Core.List.{List}
use mathlib.Core.Path.{◌≡◌, sym, subst}
use lib.Dec.{T, leb, eqb, eqb→eq}
use lib.ListN.{length, get_or}
use borrow.Author.Tests.{le-leb, lt-leb, eq-eqb, ne_eqb}
use Rattle.buffer.specs.Bytes.{number_at}
use Rattle.semantics.proofs.Laws.Tests.{first, second}
use Rattle.record.specs.Header.{set_letter, letter_of, colon}
use Rattle.set.specs.Reading.{set_shape}

module _ (s : List ℕ) where
  -- too short for a count
  pub shape-short : length s < 4 → set_shape s ≡ false
  unfolding set_shape
  shape-short h = rw (lt-leb 4 (length s) h)

  -- another letter, no colon
  pub shape-letter : 4 ≤ length s → (letter_of s ≡ set_letter → ⊥) → set_shape s ≡ false
  unfolding set_shape
  shape-letter h n = rw (le-leb 4 (length s) h, ne_eqb (letter_of s) set_letter n)

  pub shape-colon : 4 ≤ length s → letter_of s ≡ set_letter → (get_or s 1 0 ≡ colon → ⊥) → set_shape s ≡ false
  unfolding set_shape
  shape-colon h e n = rw (le-leb 4 (length s) h, eq-eqb (letter_of s) set_letter e, ne_eqb (get_or s 1 0) colon n)

  -- the mark is right: the length decides
  pub shape-marked : 4 ≤ length s → letter_of s ≡ set_letter → get_or s 1 0 ≡ colon → set_shape s ≡ eqb (length s) (4 + 5 * number_at s 2)
  unfolding set_shape
  shape-marked h e c = rw (le-leb 4 (length s) h, eq-eqb (letter_of s) set_letter e, eq-eqb (get_or s 1 0) colon c)

-- a right shape
pub record Shaped (s : List ℕ) : Type 0 where
  pub letter : letter_of s ≡ set_letter
  pub mark : get_or s 1 0 ≡ colon
  pub whole : length s ≡ 4 + 5 * number_at s 2

pub shaped : (s : List ℕ) → set_shape s ≡ true → Shaped s
unfolding set_shape
shaped s e =
    let marked = second (leb 4 (length s)) (eqb (letter_of s) set_letter && (eqb (get_or s 1 0) colon && eqb (length s) (4 + 5 * number_at s 2)))
    (subst T (sym e) tt) in
    let behind = second (eqb (letter_of s) set_letter) (eqb (get_or s 1 0) colon && eqb (length s) (4 + 5 * number_at s 2)) marked in
    record {
      letter = eqb→eq (letter_of s) set_letter (first (eqb (letter_of s) set_letter) (eqb (get_or s 1 0) colon && eqb (length s) (4 + 5 * number_at s 2)) marked);
      mark = eqb→eq (get_or s 1 0) colon (first (eqb (get_or s 1 0) colon) (eqb (length s) (4 + 5 * number_at s 2)) behind);
      whole = eqb→eq (length s) (4 + 5 * number_at s 2) (second (eqb (get_or s 1 0) colon) (eqb (length s) (4 + 5 * number_at s 2)) behind);
    }
