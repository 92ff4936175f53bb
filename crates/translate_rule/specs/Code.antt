-- What code takes from a rule's record to tell its translation's size (01, "Translation").
-- In order: the length; the number of rules. Not here: the rules that are written (`semantics`), their layout (`record`).
-- Assumes nothing.
use Rattle.std.specs.Prelude.{ℕ, ◌+◌, ◌*◌, cond, List, eqb}
use Rattle.record.specs.Header.{defeasible_letter, letter_of, head_count, positive_count, naf_count}

-- the length of the translation of the rule whose record starts s, and the number of its rules, by the letter and the counts
unfoldable pub length_at : List ℕ → ℕ
length_at s =
    cond (eqb (letter_of s) defeasible_letter) (66 * head_count s + 5 * (positive_count s + naf_count s) + 24)
    (7 + 5 * (head_count s + positive_count s + naf_count s))

unfoldable pub count_at : List ℕ → ℕ
count_at s = cond (eqb (letter_of s) defeasible_letter) (3 * head_count s + 2) 1
