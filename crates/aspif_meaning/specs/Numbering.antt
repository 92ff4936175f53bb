-- The literals of a program and their numbers (02, Ask 1: "Literals in the program are numbered from 1 in ascending byte order").
-- In order: the literals that occur; those ascending, each once; a literal's number.
-- Assumes nothing.
use Rattle.std.specs.Prelude.{ℕ, ◌+◌, Bool, cond, List, [], ◌∷◌, ◌++◌}
use Rattle.literal.specs.declared.Literal.{Literal}
use Rattle.literal.specs.Order.{before, sorted}
use Rattle.semantics.specs.Rule.{Rule, Program, head, positive, naf}

-- the literals of a rule: head, positive body and under naf, as often as they stand there
unfoldable pub rule_literals : Rule → List Literal
rule_literals r = head r ++ (positive r ++ naf r)

unfoldable pub occurring : Program → List Literal
occurring [] = []
occurring (r ∷ p) = rule_literals r ++ occurring p

-- those that occur, ascending, each once
unfoldable pub literals : Program → List Literal
literals p = sorted (occurring p)

-- how many elements of a list pass a test
abbrev pub count_of {ℓ} : {A : Type ℓ} → (A → Bool) → List A → ℕ
count_of f [] = 0
count_of f (x ∷ xs) = cond (f x) 1 0 + count_of f xs

-- one more than the literals of the program before it
unfoldable pub number_of : Program → Literal → ℕ
number_of p l = count_of (λ m. before m l) (literals p) + 1
