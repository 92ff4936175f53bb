-- Laws of the options that are left and their positions, gathered one by one.
-- Assumes nothing.
use Rattle.std.specs.Prelude.{ℕ, ◌+◌, ◌-◌, ◌*◌, ◌<◌, ◌≡◌, true, false, List, length, Some, None}
use Rattle.std.proofs.Common.{sym, ◌∙◌, ap}
use lib.Bits.{bit_or}
use borrow.Author.Tests.{eq-eqb, ne_eqb}
use Rattle.literal.specs.declared.Literal.{Literal}
use Rattle.literal.specs.declared.Literal.TheVariants.{Signed, Defeated}
use Rattle.literal.specs.Order.{key}
use Rattle.record_walk.specs.Code.{tag_at, option_at}
use Rattle.set.specs.Code.{key_set}
use Rattle.quotient_rule.specs.Code.{left_at}
use Rattle.quotient_rule.proofs.Laws.Left.{left-passed, left-taken}
use Rattle.check_clauses.specs.Code.{key_mask, union, literal_mask, left_of}
use Rattle.check_clauses.proofs.Laws.Union.{union-next}

-- the positions of those that are left, behind some that were gathered
module _ (t s : List ℕ) (n m i so : ℕ) (l : i < m) where
  abbrev rest : ℕ → List Literal
  rest j = left_at t s n (7 + 5 * j) (m - j)

  pub mask-passed : key_set s n (Defeated (tag_at t) (option_at t (7 + 5 * i))) ≡ true
      → bit_or so (union (literal_mask s n) (rest i)) ≡ bit_or so (union (literal_mask s n) (rest (i + 1)))
  mask-passed e = ap (λ (ls : List Literal). bit_or so (union (literal_mask s n) ls)) (left-passed t s n 7 m i l e)

  pub mask-taken : key_set s n (Defeated (tag_at t) (option_at t (7 + 5 * i))) ≡ false → (one : ℕ) → one ≡ key_mask s n (key (Signed (option_at t (7 + 5 * i))))
      → bit_or so (union (literal_mask s n) (rest i)) ≡ bit_or (bit_or so one) (union (literal_mask s n) (rest (i + 1)))
  mask-taken e one q =
      ap (λ (ls : List Literal). bit_or so (union (literal_mask s n) ls)) (left-taken t s n 7 m i l e)
      ∙ union-next (literal_mask s n) so (Signed (option_at t (7 + 5 * i))) (rest (i + 1))
      ∙ ap (λ (k : ℕ). bit_or (bit_or so k) (union (literal_mask s n) (rest (i + 1)))) (sym q)

-- none, and some, gathered
module _ (s : List ℕ) (n : ℕ) (ls : List Literal) where
  pub left-nothing : length ls ≡ 0 → left_of s n ls ≡ None
  unfolding left_of
  left-nothing e = rw (eq-eqb (length ls) 0 e)

  pub left-gathered : (count mask : ℕ) → count ≡ length ls → (length ls ≡ 0 → ⊥) → mask ≡ union (literal_mask s n) ls
      → left_of s n ls ≡ Some (record { count = count; mask = mask })
  unfolding left_of
  left-gathered count mask k f e = rw (ne_eqb (length ls) 0 f, k, e)
