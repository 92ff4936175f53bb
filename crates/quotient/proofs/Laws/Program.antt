-- Laws of a quotient's records, rule by rule: what is left of a rule, of a program, of one rule more; the lengths and counts of it.
-- In order: what is left of a rule; the records of what is left of a program; the rules before one, that one and those behind it; a
-- quotient is no longer than its program; its bytes.
-- Assumes nothing.
use Prim.Native.Nat.{ℕ, zero, suc, ◌+◌, ◌≤◌, ◌<◌}
use native.Mathlib.Omega.{arith}
use mathlib.Core.Path.{◌≡◌, refl, ◌∙◌, ap}
use mathlib.Core.Bool.{Bool, true, false, cond}
use mathlib.Core.List.{List, [], ◌∷◌, ◌++◌, map, map-append, append-nil}
use mathlib.Core.Option.{Option, none, some}
use lib.Dec.{eqb}
use lib.ListN.{length, length-append, length-map}
use borrow.Author.Tests.{ne_eqb}
use Rattle.literal.specs.declared.Literal.{Literal}
use Rattle.semantics.specs.Set.{LiteralSet, some_of}
use Rattle.semantics.specs.Rule.{Rule, strict, defeasible, Program, Remainder}
use Rattle.semantics.specs.Meaning.{undefeated, unless_empty, remainder, with_remainder, quotient}
use Rattle.semantics.specs.Translation.{record_length}
use Rattle.semantics.proofs.Laws.Meaning.{quotient-append, undefeated-few}
use Rattle.record.specs.Layout.{encoded_rule, encoded_rules, encoded_end, encoded_program, rule_record}
use Rattle.record.proofs.Laws.Layout.{encoded-rules-append, length-encoded-rule, length-program}
use Rattle.quotient.specs.Quotient.{remainder_rule}
use Rattle.quotient.specs.Code.{quotient_of}

-- the record of what is left of a rule, if anything is
unfoldable pub remainder_bytes : Option Remainder → List ℕ
remainder_bytes none = []
remainder_bytes (some q) = encoded_rule (remainder_rule q)

-- the number of its rules
unfoldable pub remainder_count : Option Remainder → ℕ
remainder_count none = 0
remainder_count (some q) = 1

-- a remainder's record has bytes
some_bytes : (q : Remainder) → 0 < length (encoded_rule (remainder_rule q))
unfolding encoded_rule rule_record remainder_rule
some_bytes q = omega arith

-- how many rules are left of a rule, by its bytes
pub count-bytes : (o : Option Remainder) → remainder_count o ≡ cond (eqb (length (remainder_bytes o)) 0) 0 1
unfolding remainder_count remainder_bytes
count-bytes none = refl
count-bytes (some q) = go (length (encoded_rule (remainder_rule q))) (some_bytes q)
  where
    go : (n : ℕ) → 0 < n → ◌≡◌ {A = ℕ} 1 (cond (eqb n 0) 0 1)
    go zero h = absurd (omega arith)
    go (suc n) h = rw (ne_eqb (suc n) 0 (omega arith))

-- what is left of a rule is no longer than its record
remainder-shorter : (r : Rule) (s : LiteralSet) → length (remainder_bytes (remainder r s)) ≤ record_length r
unfolding remainder remainder_bytes remainder_rule record_length unless_empty
remainder-shorter (strict h b c) s = go (some_of s c)
  where
    go : (x : Bool) → length (remainder_bytes (cond x none (some (record { head = h; positive = b })))) ≤ record_length (strict h b c)
    go true = omega arith
    go false = omega (arith, length-encoded-rule (strict h b []))
remainder-shorter (defeasible t h b c) s = go (some_of s c) (undefeated t h s) (undefeated-few t h s)
  where
    go : (x : Bool) (ls : List Literal) → length ls ≤ length h → length (remainder_bytes (cond x none (unless_empty ls b))) ≤ record_length (defeasible t h b c)
    go true ls m = omega arith
    go false [] m = omega arith
    go false (l ∷ ls) m = omega (arith, length-encoded-rule (strict (l ∷ ls) b []))

module _ (s : LiteralSet) where
  -- the records of a quotient's rules
  unfoldable pub left_bytes : Program → List ℕ
  left_bytes p = encoded_rules (map remainder_rule (quotient p s))

  -- none of no rule
  pub left-none : (length (left_bytes []) ≡ 0) × (length (quotient [] s) ≡ 0)
  unfolding left_bytes quotient encoded_rules
  left-none = (refl, refl)

  -- what is left of a rule stands first, and is counted
  left-rule : (r : Rule) (p : Program) → left_bytes (r ∷ p) ≡ remainder_bytes (remainder r s) ++ left_bytes p
  unfolding left_bytes quotient with_remainder remainder_bytes encoded_rules
  left-rule r p = go (remainder r s)
    where
      go : (o : Option Remainder) → encoded_rules (map remainder_rule (with_remainder o (quotient p s)))
          ≡ remainder_bytes o ++ encoded_rules (map remainder_rule (quotient p s))
      go none = refl
      go (some q) = refl

  count-rule : (r : Rule) (p : Program) → length (quotient (r ∷ p) s) ≡ remainder_count (remainder r s) + length (quotient p s)
  unfolding quotient with_remainder remainder_count
  count-rule r p = go (remainder r s)
    where
      go : (o : Option Remainder) → length (with_remainder o (quotient p s)) ≡ remainder_count o + length (quotient p s)
      go none = omega arith
      go (some q) = omega arith

  -- of an append
  left-append : (p q : Program) → left_bytes (p ++ q) ≡ left_bytes p ++ left_bytes q
  unfolding left_bytes
  left-append p q =
      ap (λ (qs : List Remainder). encoded_rules (map remainder_rule qs)) (quotient-append p q s)
      ∙ ap encoded_rules (map-append remainder_rule (quotient p s) (quotient q s))
      ∙ encoded-rules-append (map remainder_rule (quotient p s)) (map remainder_rule (quotient q s))

  -- the rules before one, that one, and those behind it
  pub left_split : (gone : Program) (r : Rule) (behind : Program)
      → left_bytes (gone ++ r ∷ behind) ≡ left_bytes gone ++ (remainder_bytes (remainder r s) ++ left_bytes behind)
  left_split gone r behind = left-append gone (r ∷ behind) ∙ ap (λ (bs : List ℕ). left_bytes gone ++ bs) (left-rule r behind)

  -- one rule more
  pub left-next : (gone : Program) (r : Rule) → left_bytes (gone ++ r ∷ []) ≡ left_bytes gone ++ remainder_bytes (remainder r s)
  unfolding left_bytes quotient encoded_rules
  left-next gone r = left_split gone r [] ∙ ap (λ (bs : List ℕ). left_bytes gone ++ bs) (append-nil (remainder_bytes (remainder r s)))

  pub count_next : (gone : Program) (r : Rule) → length (quotient (gone ++ r ∷ []) s) ≡ length (quotient gone s) + remainder_count (remainder r s)
  unfolding quotient
  count_next gone r =
      ap length (quotient-append gone (r ∷ []) s) ∙ length-append (quotient gone s) (quotient (r ∷ []) s)
      ∙ omega (arith, count-rule r [])

  -- no more rules than the program has, and no more bytes
  pub rules-left : (p : Program) → length (quotient p s) ≤ length p
  unfolding quotient remainder_count
  rules-left [] = omega arith
  rules-left (r ∷ p) = omega (arith, count-rule r p, few (remainder r s), rules-left p)
    where
      few : (o : Option Remainder) → remainder_count o ≤ 1
      few none = omega arith
      few (some q) = omega arith

  pub left-shorter : (p : Program) → length (left_bytes p) ≤ length (encoded_rules p)
  unfolding encoded_rules
  left-shorter [] = omega (arith, left-none.0)
  left-shorter (r ∷ p) =
      omega (
        arith,
        ap length (left-rule r p),
        length-append (remainder_bytes (remainder r s)) (left_bytes p),
        remainder-shorter r s,
        left-shorter p,
        length-append (encoded_rule r) (encoded_rules p),
        length-encoded-rule r,
      )

  -- the quotient's bytes: those records, and an end record that counts them
  pub quotient-bytes : (p : Program) → quotient_of p s ≡ left_bytes p ++ encoded_end (length (quotient p s))
  unfolding quotient_of encoded_program left_bytes
  quotient-bytes p = ap (λ (n : ℕ). encoded_rules (map remainder_rule (quotient p s)) ++ encoded_end n) (length-map (quotient p s) remainder_rule)

  pub length-quotient : (p : Program) → length (quotient_of p s) ≡ 4 + length (left_bytes p)
  unfolding quotient_of left_bytes
  length-quotient p = length-program (map remainder_rule (quotient p s))

-- no longer than the program's
pub quotient-short : (p : Program) (s : LiteralSet) → length (encoded_program (map remainder_rule (quotient p s))) ≤ length (encoded_program p)
unfolding left_bytes
quotient-short p s = omega (arith, length-program (map remainder_rule (quotient p s)), left-shorter s p, length-program p)

pub quotient-of-short : (p : Program) (s : LiteralSet) → length (quotient_of p s) ≤ length (encoded_program p)
unfolding quotient_of
quotient-of-short p s = quotient-short p s
