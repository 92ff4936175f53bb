-- How code tells from a rule's record what a set leaves of the rule (000, Definition 13; 01, "Meaning" and "Quotient").
-- In order: the options that are left; what is left of a strict rule, of a defeasible rule, of any record.
-- Assumes nothing.
use Rattle.std.specs.Prelude.{ℕ, ◌+◌, ◌*◌, List, [], ◌∷◌, ◌++◌, cond, eqb, length, take, drop}
use Rattle.literal.specs.declared.Literal.{Literal}
use Rattle.semantics.specs.Meaning.{undefeated}
use Rattle.record.specs.Header.{defeasible_letter, letter_of, head_count, positive_count, naf_count}
use Rattle.record.specs.Layout.{encoded_literals}
use Rattle.record_walk.specs.Code.{tag_at, options_at}
use Rattle.record_write.specs.Code.{header}
use Rattle.set.specs.Code.{key_set, any_key}

-- the options that are left of the n from `at` on in the record that starts t, by the set of k's m literals
unfoldable pub left_at : List ℕ → List ℕ → ℕ → ℕ → ℕ → List Literal
left_at t k m at n = undefeated (tag_at t) (options_at t at n) (key_set k m)

-- what is left of the record that starts t where no naf literal is in the set: of a strict rule all but its naf literals
unfoldable pub strict_bytes : List ℕ → List ℕ
strict_bytes t = header (head_count t) (positive_count t) 0 ++ take (5 * (head_count t + positive_count t)) (drop 7 t)

-- of a defeasible rule the options that are left, if there are any, and its positive literals
unfoldable pub option_bytes : List ℕ → List Literal → List ℕ
option_bytes t [] = []
option_bytes t (l ∷ ls) = header (length (l ∷ ls)) (positive_count t) 0 ++ (encoded_literals (l ∷ ls) ++ take (5 * positive_count t) (drop (7 + 5 * head_count t) t))

-- what is left of the record that starts t
unfoldable pub remainder_at : List ℕ → List ℕ → ℕ → List ℕ
remainder_at t k m =
    cond (any_key k m (naf_count t) t (7 + 5 * (head_count t + positive_count t))) []
    (cond (eqb (letter_of t) defeasible_letter) (option_bytes t (left_at t k m 7 (head_count t))) (strict_bytes t))
