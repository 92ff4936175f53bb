-- Laws of what is left of a record: by its tests, its length, written in pieces.
-- In order: the tests; lengths; the pieces. Assumes nothing.
use Prim.Native.Nat.{ℕ, ◌+◌, ◌*◌, ◌≤◌, ◌<◌}
use native.Mathlib.Omega.{arith}
use mathlib.Core.Path.{◌≡◌, refl, ◌∙◌}
use mathlib.Core.Bool.{true, false}
use mathlib.Core.List.{List, [], ◌∷◌, ◌++◌}
use lib.ListN.{length, take, drop, length-append, length-drop}
use lib.Seq.{length-take-le}
use borrow.Author.Tests.{eq-eqb, ne_eqb}
use Rattle.literal.specs.declared.Literal.{Literal}
use Rattle.record.specs.Header.{defeasible_letter, letter_of, head_count, positive_count, naf_count}
use Rattle.record.specs.Layout.{encoded_literals}
use Rattle.record.proofs.Laws.Layout.{length-encoded-literals}
use Rattle.record_walk.specs.Code.{record_size}
use Rattle.record_write.specs.Code.{header}
use Rattle.record_write.proofs.Laws.Stores.{length-header}
use Rattle.set.specs.Code.{any_key}
use Rattle.quotient_rule.specs.Code.{left_at, strict_bytes, option_bytes, remainder_at}

module _ (t k : List ℕ) (m : ℕ) where
  -- a naf literal is in the set: nothing is left
  pub remainder-removed : any_key k m (naf_count t) t (7 + 5 * (head_count t + positive_count t)) ≡ true → remainder_at t k m ≡ []
  unfolding remainder_at
  remainder-removed e = rw e

  module _ (e : any_key k m (naf_count t) t (7 + 5 * (head_count t + positive_count t)) ≡ false) where
    -- none is: by the letter
    pub remainder-defeasible : letter_of t ≡ defeasible_letter → remainder_at t k m ≡ option_bytes t (left_at t k m 7 (head_count t))
    unfolding remainder_at
    remainder-defeasible d = rw (e, eq-eqb (letter_of t) defeasible_letter d)

    pub remainder-strict : (letter_of t ≡ defeasible_letter → ⊥) → remainder_at t k m ≡ strict_bytes t
    unfolding remainder_at
    remainder-strict d = rw (e, ne_eqb (letter_of t) defeasible_letter d)

module _ (t : List ℕ) (whole : record_size t ≤ length t) where
  -- a strict rule's
  pub length-strict-bytes : length (strict_bytes t) ≡ 7 + 5 * (head_count t + positive_count t)
  unfolding strict_bytes
  length-strict-bytes =
      length-append (header (head_count t) (positive_count t) 0) (take (5 * (head_count t + positive_count t)) (drop 7 t))
      ∙ omega (
        arith,
        length-header (head_count t) (positive_count t) 0,
        length-take-le (5 * (head_count t + positive_count t)) (drop 7 t) (omega (arith, length-drop 7 t)),
      )

  -- the positive literals of a defeasible rule's
  pub length-positives : length (take (5 * positive_count t) (drop (7 + 5 * head_count t) t)) ≡ 5 * positive_count t
  length-positives = length-take-le (5 * positive_count t) (drop (7 + 5 * head_count t) t) (omega (arith, length-drop (7 + 5 * head_count t) t))

  -- a defeasible rule's, where options are left
  pub length-option-bytes : (ls : List Literal) → (length ls ≡ 0 → ⊥) → length (option_bytes t ls) ≡ 7 + 5 * (length ls + positive_count t)
  unfolding option_bytes
  length-option-bytes [] h = absurd (h refl)
  length-option-bytes (l ∷ ls) h =
      length-append (header (length (l ∷ ls)) (positive_count t) 0) (encoded_literals (l ∷ ls) ++ take (5 * positive_count t) (drop (7 + 5 * head_count t) t))
      ∙ omega (
        arith,
        length-header (length (l ∷ ls)) (positive_count t) 0,
        length-append (encoded_literals (l ∷ ls)) (take (5 * positive_count t) (drop (7 + 5 * head_count t) t)),
        length-encoded-literals (l ∷ ls),
        length-positives,
      )

-- where no option is left, nothing is
pub option-bytes-none : (t : List ℕ) (ls : List Literal) → length ls ≡ 0 → option_bytes t ls ≡ []
unfolding option_bytes
option-bytes-none t [] h = refl
option-bytes-none t (l ∷ ls) h = absurd (omega arith)

-- where there are, a header, their bytes and the positive literals
pub option-bytes-some : (t : List ℕ) (ls : List Literal) → (length ls ≡ 0 → ⊥)
    → header (length ls) (positive_count t) 0 ++ (encoded_literals ls ++ take (5 * positive_count t) (drop (7 + 5 * head_count t) t)) ≡ option_bytes t ls
unfolding option_bytes
option-bytes-some t [] h = absurd (h refl)
option-bytes-some t (l ∷ ls) h = refl

-- without room for a header, no option is left
pub option-bytes-short : (t : List ℕ) (ls : List Literal) (to room : ℕ) → record_size t ≤ length t
    → to + length (option_bytes t ls) ≤ room → room < to + 7 → length ls ≡ 0
option-bytes-short t [] to room whole fits h = refl
option-bytes-short t (l ∷ ls) to room whole fits h = absurd (omega (arith, length-option-bytes t whole (l ∷ ls) (λ e. omega arith)))
