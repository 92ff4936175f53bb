-- The clause of a rule is the same by two sets, and two ways to give positions, that agree on the literals that the rule speaks of.
-- In order: the clause of what is left of a rule; unions; clauses.
-- Assumes nothing.
use Prim.Native.Nat.{ℕ}
use mathlib.Core.Path.{◌≡◌, refl, ◌∙◌, ap, ap₂}
use mathlib.Core.Bool.{cond}
use mathlib.Core.List.{List, [], ◌∷◌}
use mathlib.Core.Option.{Option, none, some}
use Rattle.std.specs.Prelude.{Option as Maybe, Some, None}
use lib.Bits.{bit_or}
use Rattle.literal.specs.declared.Literal.{Literal}
use Rattle.semantics.specs.Set.{LiteralSet, each_of}
use Rattle.semantics.specs.Rule.{Rule, Remainder}
use Rattle.semantics.specs.Meaning.{remainder}
use Rattle.semantics.proofs.Laws.Tests.{Each}
use Rattle.semantics.proofs.Laws.Agree.{Speaks, Left, each-remainder, all_same, remainder-same}
use Rattle.check_force.specs.declared.Clause.{Clause}
use Rattle.check_clauses.specs.Code.{union}

-- the clause of what a set u leaves of a rule, where f gives the literals' positions: none where nothing is left, and none
-- where a positive literal is not in u, for then it holds in each part of u
unfoldable pub clause_of : LiteralSet → (Literal → ℕ) → Option Remainder → Maybe Clause
clause_of u f none = None
clause_of u f (some q) = cond (each_of u q.positive) (Some (record { body = union f q.positive; head = union f q.head })) None

module _ (P : Literal → Type 0) (u v : LiteralSet) (f g : Literal → ℕ) (same_set : (l : Literal) → P l → u l ≡ v l)
    (same-mask : (l : Literal) → P l → f l ≡ g l)
  where
    union-same : (ls : List Literal) → Each P ls → union f ls ≡ union g ls
    unfolding union
    union-same [] e = refl
    union-same (l ∷ ls) e = ap₂ bit_or (same-mask l e.0) (union-same ls e.1)

    -- the clause of what is left
    clause-same : (o : Option Remainder) → Left P o → clause_of u f o ≡ clause_of v g o
    unfolding clause_of
    clause-same none e = refl
    clause-same (some q) e = rw (all_same P u v same_set q.positive e.1, union-same q.positive e.1, union-same q.head e.0)

    pub rule-same : (r : Rule) → Speaks P r → clause_of u f (remainder r u) ≡ clause_of v g (remainder r v)
    rule-same r w = ap (clause_of u f) (remainder-same P u v same_set r w) ∙ clause-same (remainder r v) (each-remainder P r v w)
