-- Laws of lengths and counts: of what a rule becomes, and from its record's header.
-- Assumes nothing.
use Prim.Native.Nat.{ℕ, ◌+◌, ◌*◌}
use native.Mathlib.Omega.{arith}
use mathlib.Core.Path.{◌≡◌, ◌∙◌, ap}
use mathlib.Core.List.{List}
use lib.ListN.{length, length-map}
use borrow.Author.Tests.{eq-eqb, ne_eqb}
use Rattle.literal.specs.declared.Literal.TheVariants.{Signed}
use Rattle.semantics.specs.Rule.{Rule, strict, defeasible}
use Rattle.semantics.specs.Translation.{translated_rule, record_length, translated_length, translated_count}
use Rattle.semantics.proofs.Laws.Length.{rule-length}
use Rattle.record.specs.Header.{defeasible_letter, letter_of, head_count, positive_count, naf_count}
use Rattle.record.specs.Layout.{encoded_rules}
use Rattle.record.proofs.Laws.Layout.{length-encoded-rules}
use Rattle.record_walk.specs.Code.{record_size, Starts}
use Rattle.record_walk.proofs.Laws.Fields.{strict-fields, defeasible-fields}
use Rattle.translate_rule.specs.Code.{length_at, count_at}

-- a rule becomes as many bytes as the sum says
pub length-translated : (n : ℕ) (r : Rule) → length (encoded_rules (translated_rule n r)) ≡ translated_length r
length-translated n r = length-encoded-rules (translated_rule n r) ∙ rule-length n r

-- the length and the count that a header tells are those of the rule's translation
pub record Told (s : List ℕ) (r : Rule) : Type 0 where
  pub long : length_at s ≡ translated_length r
  pub count : count_at s ≡ translated_count r

-- the header of a record tells its rule's
pub told : (s : List ℕ) (r : Rule) → Starts s r → Told s r
unfolding record_length translated_length translated_count length_at count_at
told s (strict h b c) w =
    let f = strict-fields s h b c w in
    record { long = rw f.of-letter (omega (arith, f.heads, f.positives, f.nafs)); count = rw f.of-letter }
told s (defeasible t h b c) w =
    let f = defeasible-fields s t h b c w in
    let k = f.heads ∙ length-map h Signed in
    record { long = rw f.of-letter (omega (arith, k, f.positives, f.nafs)); count = rw f.of-letter (ap (λ (n : ℕ). 3 * n + 2) k) }

-- the length of a defeasible rule's translation, by the letter
pub length-defeasible : (s : List ℕ) → letter_of s ≡ defeasible_letter → length_at s ≡ 66 * head_count s + 5 * (positive_count s + naf_count s) + 24
unfolding length_at
length-defeasible s e = rw (eq-eqb (letter_of s) defeasible_letter e)

-- a strict rule's is its record's
pub length-strict : (s : List ℕ) → (letter_of s ≡ defeasible_letter → ⊥) → length_at s ≡ record_size s
unfolding length_at
length-strict s e = rw (ne_eqb (letter_of s) defeasible_letter e)
