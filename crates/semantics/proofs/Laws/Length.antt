-- Laws of lengths and counts: a program's length; of an append; the sum is the translation's length; the count its rules; thirteenfold.
-- Assumes nothing.
use Prim.Native.Nat.{ℕ, ◌+◌, ◌*◌, ◌≤◌}
use native.Mathlib.Omega.{arith}
use mathlib.Core.Path.{◌≡◌, refl, sym, ◌∙◌, ap, ap₂}
use mathlib.Core.List.{List, [], ◌∷◌, ◌++◌, append_assoc}
use lib.Dec.{T}
use lib.ListN.{length, length-append, length-map}
use Rattle.literal.specs.declared.Limits.{Limits}
use Rattle.literal.specs.declared.Tag.{Tag}
use Rattle.literal.specs.declared.SignedAtom.{SignedAtom}
use Rattle.literal.specs.declared.Literal.TheVariants.{Signed, Defeated, Derived}
use Rattle.semantics.specs.Set.{each_of}
use Rattle.semantics.specs.Rule.{Rule, strict, defeasible, Program, head}
use Rattle.semantics.specs.Translation.{rule_defeated, choice, all_defeated, holds_if_derived, derived_if_holds, never_both, option, options, translated_rule, translation_from, translation, record_length, translated_length, translated_lengths, translation_length, translated_count, translated_counts}
use Rattle.semantics.specs.Form.{keeps_rule}
use Rattle.semantics.proofs.Laws.Tests.{first, second}
use Rattle.semantics.proofs.Laws.Form.{kept}

-- the bytes of a program's records, and of the program: an end record follows
unfoldable pub records_length : Program → ℕ
records_length [] = 0
records_length (r ∷ p) = record_length r + records_length p

unfoldable pub program_length : Program → ℕ
program_length p = records_length p + 4

-- the translation of an append: the second part's numbers go on
pub translation-append : (n : ℕ) (p q : Program) → translation_from n (p ++ q) ≡ translation_from n p ++ translation_from (n + length p) q
unfolding translation_from
translation-append n [] q = ap (λ (m : ℕ). translation_from m q) (omega arith)
translation-append n (r ∷ p) q =
    ap (λ (rs : Program). translated_rule n r ++ rs)
    (translation-append (n + 1) p q ∙ ap (λ (m : ℕ). translation_from (n + 1) p ++ translation_from m q) (omega arith))
    ∙ sym (append_assoc (translated_rule n r) (translation_from (n + 1) p) (translation_from (n + length (r ∷ p)) q))

pub records-length-append : (p q : Program) → records_length (p ++ q) ≡ records_length p + records_length q
unfolding records_length
records-length-append [] q = omega arith
records-length-append (r ∷ p) q = omega (arith, records-length-append p q)

-- (4), (5) and (6) take 17, 22 and 17 bytes for each option, and are three rules
option-length : (t : Tag) (a : SignedAtom) → records_length (option t a) ≡ 56
unfolding records_length option holds_if_derived derived_if_holds never_both record_length
option-length t a = refl

options-length : (t : Tag) (h : List SignedAtom) → records_length (options t h) ≡ 56 * length h
unfolding records_length options
options-length t [] = refl
options-length t (a ∷ h) =
    records-length-append (option t a) (options t h) ∙ omega (arith, option-length t a, options-length t h)

options-count : (t : Tag) (h : List SignedAtom) → length (options t h) ≡ 3 * length h
unfolding options option
options-count t [] = refl
options-count t (a ∷ h) = omega (arith, options-count t h)

-- what one rule becomes has the length of the sum's part for it, and as many rules as it says
pub rule-length : (n : ℕ) (r : Rule) → records_length (translated_rule n r) ≡ translated_length r
unfolding translated_rule translated_length records_length record_length choice all_defeated
rule-length n (strict h b c) = omega arith
rule-length n (defeasible t h b c) =
    omega (arith, options-length t h, length-map h (Derived t), length-map h (Defeated t), length-append c (rule_defeated n ∷ []))

pub rule-count : (n : ℕ) (r : Rule) → length (translated_rule n r) ≡ translated_count r
unfolding translated_rule translated_count
rule-count n (strict h b c) = refl
rule-count n (defeasible t h b c) = omega (arith, options-count t h)

from-length : (n : ℕ) (p : Program) → records_length (translation_from n p) ≡ translated_lengths p
unfolding translation_from translated_lengths records_length
from-length n [] = refl
from-length n (r ∷ p) =
    records-length-append (translated_rule n r) (translation_from (n + 1) p) ∙ ap₂ (λ (x y : ℕ). x + y) (rule-length n r) (from-length (n + 1) p)

from-count : (n : ℕ) (p : Program) → length (translation_from n p) ≡ translated_counts p
unfolding translation_from translated_counts
from-count n [] = refl
from-count n (r ∷ p) =
    length-append (translated_rule n r) (translation_from (n + 1) p) ∙ ap₂ (λ (x y : ℕ). x + y) (rule-count n r) (from-count (n + 1) p)

-- an append's sum and count
pub lengths-append : (p q : Program) → translated_lengths (p ++ q) ≡ translated_lengths p + translated_lengths q
unfolding translated_lengths
lengths-append [] q = omega arith
lengths-append (r ∷ p) q = omega (arith, lengths-append p q)

pub counts-append : (p q : Program) → translated_counts (p ++ q) ≡ translated_counts p + translated_counts q
unfolding translated_counts
counts-append [] q = omega arith
counts-append (r ∷ p) q = omega (arith, counts-append p q)

-- a rule becomes one rule or more
pub counts-least : (p : Program) → length p ≤ translated_counts p
unfolding translated_counts translated_count
counts-least [] = omega arith
counts-least (strict h b c ∷ p) = omega (arith, counts-least p)
counts-least (defeasible t h b c ∷ p) = omega (arith, counts-least p)

-- the sum is the length of the translation in bytes
pub length-translation : (p : Program) → program_length (translation p) ≡ translation_length p
unfolding program_length translation translation_length
length-translation p = omega (arith, from-length 1 p)

-- the translation's rules: one for a strict rule, 3k + 2 for a defeasible one with k options
pub count-translation : (p : Program) → length (translation p) ≡ translated_counts p
unfolding translation
count-translation p = from-count 1 p

-- a rule with at most 67 heads becomes at most thirteen times as long
rule-thirteenfold : (F : Limits) → F.heads ≤ 67 → (r : Rule) → T (keeps_rule F r) → translated_length r ≤ 13 * record_length r
unfolding translated_length record_length head
rule-thirteenfold F most (strict h b c) k = omega arith
rule-thirteenfold F most (defeasible t h b c) k =
    omega (arith, (kept F (defeasible t h b c) k).heads, length-map h Signed)

rules-thirteenfold : (F : Limits) → F.heads ≤ 67 → (p : Program) → T (each_of (keeps_rule F) p) → translated_lengths p ≤ 13 * records_length p
unfolding translated_lengths records_length
rules-thirteenfold F most [] k = omega arith
rules-thirteenfold F most (r ∷ p) k =
    omega (arith, rule-thirteenfold F most r (first (keeps_rule F r) _ k), rules-thirteenfold F most p (second (keeps_rule F r) _ k))

-- a translation is at most thirteen times as long as its source
pub thirteenfold : (F : Limits) → F.heads ≤ 67 → (p : Program) → T (each_of (keeps_rule F) p) → translation_length p ≤ 13 * program_length p
unfolding translation_length program_length
thirteenfold F most p k = omega (arith, rules-thirteenfold F most p k)
