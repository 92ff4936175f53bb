-- The translation of a program into strict rules (01, "Translation"; 001, Definition 1), its length and its rules.
-- In order: the marks; rules (2) to (6); the translation; the length of a record, of a translation; the rule count.
-- Not here: the records' bytes (`record`).
-- Assumes nothing.
use Rattle.std.specs.Prelude.{ℕ, ◌+◌, ◌*◌, List, [], ◌∷◌, ◌++◌, map, length}
use Rattle.literal.specs.declared.Tag.{Tag}
use Rattle.literal.specs.declared.SignedAtom.{SignedAtom}
use Rattle.literal.specs.declared.Literal.{Literal}
use Rattle.literal.specs.declared.Literal.TheVariants.{Signed, Defeated, Derived, RuleDefeated}
use Rattle.semantics.specs.Rule.{Rule, strict, defeasible, Program}

-- rule-defeated n: keyed by the rule's number, since rules share tags
abbrev pub rule_defeated : ℕ → Literal
rule_defeated n = RuleDefeated (record { 0 = n })

-- (2) the derivation marks as head; the body, with naf rule-defeated n as last naf literal
unfoldable pub choice : ℕ → Tag → List SignedAtom → List Literal → List Literal → Rule
choice n t h b c = strict (map (Derived t) h) b (c ++ (rule_defeated n ∷ []))

-- (3) rule-defeated n, if the defeat marks are all there
unfoldable pub all_defeated : ℕ → Tag → List SignedAtom → Rule
all_defeated n t h = strict (rule_defeated n ∷ []) (map (Defeated t) h) []

-- (4) an option, if it is derived
unfoldable pub holds_if_derived : Tag → SignedAtom → Rule
holds_if_derived t a = strict (Signed a ∷ []) (Derived t a ∷ []) []

-- (5) derived, if the option holds and naf defeated
unfoldable pub derived_if_holds : Tag → SignedAtom → Rule
derived_if_holds t a = strict (Derived t a ∷ []) (Signed a ∷ []) (Defeated t a ∷ [])

-- (6) never both derived and defeated, derived first
unfoldable pub never_both : Tag → SignedAtom → Rule
never_both t a = strict [] (Derived t a ∷ (Defeated t a ∷ [])) []

unfoldable pub option : Tag → SignedAtom → List Rule
option t a = holds_if_derived t a ∷ derived_if_holds t a ∷ never_both t a ∷ []

-- (4), (5) and (6) for each option in order; one that is repeated is treated at each occurrence
unfoldable pub options : Tag → List SignedAtom → List Rule
options t [] = []
options t (a ∷ h) = option t a ++ options t h

-- what rule number n becomes: a strict rule is copied
unfoldable pub translated_rule : ℕ → Rule → List Rule
translated_rule n (strict h b c) = strict h b c ∷ []
translated_rule n (defeasible t h b c) = choice n t h b c ∷ (all_defeated n t h ∷ options t h)

-- the translation of a program whose first rule has number n
unfoldable pub translation_from : ℕ → Program → Program
translation_from n [] = []
translation_from n (r ∷ p) = translated_rule n r ++ translation_from (n + 1) p

unfoldable pub translation : Program → Program
translation p = translation_from 1 p

-- a record's bytes: seven and five for each literal
unfoldable pub record_length : Rule → ℕ
record_length (strict h b c) = 7 + 5 * (length h + (length b + length c))
record_length (defeasible t h b c) = 7 + 5 * (length h + (length b + length c))

-- the sum: what a rule adds to the translation's length. A strict rule with h heads and b body literals adds
-- 7 + 5(h + b), a defeasible one with k options 66k + 5b + 24
unfoldable pub translated_length : Rule → ℕ
translated_length (strict h b c) = 7 + 5 * (length h + (length b + length c))
translated_length (defeasible t h b c) = 66 * length h + 5 * (length b + length c) + 24

unfoldable pub translated_lengths : Program → ℕ
translated_lengths [] = 0
translated_lengths (r ∷ p) = translated_length r + translated_lengths p

unfoldable pub translation_length : Program → ℕ
translation_length p = 4 + translated_lengths p

-- how many rules a rule becomes: a defeasible one with k options 3k + 2
unfoldable pub translated_count : Rule → ℕ
translated_count (strict h b c) = 1
translated_count (defeasible t h b c) = 3 * length h + 2

unfoldable pub translated_counts : Program → ℕ
translated_counts [] = 0
translated_counts (r ∷ p) = translated_count r + translated_counts p
