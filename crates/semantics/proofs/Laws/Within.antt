-- "Among sets over these literals exactly those are answer sets" (01, "Marked examples"): a computed test, turned into
-- a statement about all sets over the literals of a list.
-- In order: a test of every part of a list; the same literals; the test; what it says.
-- Assumes nothing.
use Prim.Native.Nat.{ℕ}
use native.Mathlib.Omega.{arith}
use mathlib.Core.Path.{◌≡◌, refl, sym, subst}
use mathlib.Core.Bool.{Bool, true, false, not, ◌&&◌}
use mathlib.Core.Logic.Iff
use mathlib.Core.Logic.{◌↔◌}
use mathlib.Core.List.{List, [], ◌∷◌, Memᴰ}
use lib.Dec.{T}
use Rattle.literal.specs.declared.Literal.{Literal}
use Rattle.literal.specs.Literal.{opposite}
use Rattle.semantics.specs.Set.{LiteralSet, some_of, each_of, Subset, set_of}
use Rattle.semantics.specs.Rule.{Program}
use Rattle.semantics.specs.Meaning.{undefeated, unless_empty, remainder, with_remainder, quotient, holds, satisfied, models, AnswerSet}
use Rattle.semantics.specs.Verdict.{Finding, clash, broken, smaller, answer_set, opposed, clash_from, broken_from, or_else, with_literal, first_subset, smaller_model, finding}
use Rattle.semantics.specs.Findings.{Part, nil, absent, present}
use Rattle.semantics.proofs.Laws.Tests.{both, first, second, fails, any-mem, any_found, all-mem, all-intro}
use Rattle.semantics.proofs.Laws.Set.{set-of-mem, mem-set-of, set-ext}
use Rattle.semantics.proofs.Laws.Part.{filtered, filtered-part, set-of-filtered}
use Rattle.semantics.proofs.Laws.Verdict.{finding-answer-set}

-- every part of a list passes a test
unfoldable pub all_parts : List Literal → (List Literal → Bool) → Bool
all_parts [] test = test []
all_parts (l ∷ ls) test = all_parts ls test && all_parts ls (λ s. test (l ∷ s))

-- two lists have the same literals
unfoldable pub same_literals : List Literal → List Literal → Bool
same_literals s m = each_of (set_of m) s && each_of (set_of s) m

-- nothing was found against the set
unfoldable pub is_answer_set : Finding → Bool
is_answer_set (clash k) = false
is_answer_set (broken n) = false
is_answer_set (smaller s) = false
is_answer_set answer_set = true

-- both tests pass or neither does
unfoldable pub agree : Bool → Bool → Bool
agree true b = b
agree false b = not b

-- a list is an answer set of p exactly if it has the same literals as one of these lists
unfoldable pub listed : Program → List (List Literal) → List Literal → Bool
listed p sets s = agree (is_answer_set (finding p s)) (some_of (same_literals s) sets)

-- each part of ls is an answer set of p exactly if it is listed. To unfold this test is to unfold all that it computes with
unfoldable pub exactly : Program → List Literal → List (List Literal) → Bool
unfolding all_parts listed same_literals is_answer_set agree finding first_subset smaller_model or_else with_literal clash_from broken_from opposed
    opposite undefeated unless_empty remainder with_remainder quotient holds satisfied models
exactly p ls sets = all_parts ls (listed p sets)

agree-iff : (b c : Bool) → T (agree b c) → T b ↔ T c
unfolding agree
agree-iff true c t = (λ y. t, λ y. tt)
agree-iff false c t = (λ y. absurd y, fails c t)

is-answer-set-iff : (f : Finding) → T (is_answer_set f) ↔ (f ≡ answer_set)
unfolding is_answer_set
is-answer-set-iff (clash k) = (λ y. absurd y, λ e. let z : ◌≡◌ {A = ℕ} 0 1 = cc in omega arith)
is-answer-set-iff (broken n) = (λ y. absurd y, λ e. let z : ◌≡◌ {A = ℕ} 0 1 = cc in omega arith)
is-answer-set-iff (smaller s) = (λ y. absurd y, λ e. let z : ◌≡◌ {A = ℕ} 0 1 = cc in omega arith)
is-answer-set-iff answer_set = (λ y. refl, λ e. tt)

-- lists with the same literals are one set
pub same-literals-iff : (s m : List Literal) → T (same_literals s m) ↔ (set_of s ≡ set_of m)
unfolding same_literals
same-literals-iff s m = (
  λ t. set-ext (set_of s) (set_of m) (within s m (first (each_of (set_of m) s) (each_of (set_of s) m) t))
      (within m s (second (each_of (set_of m) s) (each_of (set_of s) m) t)),
  λ e. both (each_of (set_of m) s) (each_of (set_of s) m) (contains s m e) (contains m s (sym e)),
)
  where
    within : (s m : List Literal) → T (each_of (set_of m) s) → Subset (set_of s) (set_of m)
    within s m t l y = all-mem (set_of m) t (mem-set-of l s y)

    contains : (s m : List Literal) → set_of s ≡ set_of m → T (each_of (set_of m) s)
    contains s m e = all-intro (set_of m) s (λ l w. subst (λ (u : LiteralSet). T (u l)) e (set-of-mem w))

-- where every part passes a test, each does
pub all-parts : {s ls : List Literal} (test : List Literal → Bool) → T (all_parts ls test) → Part s ls → T (test s)
unfolding all_parts
all-parts test t nil = t
all-parts test t (absent {l} {ls} w) = all-parts test (first (all_parts ls test) (all_parts ls (λ s. test (l ∷ s))) t) w
all-parts test t (present {l} {ls} w) =
    all-parts (λ s. test (l ∷ s)) (second (all_parts ls test) (all_parts ls (λ s. test (l ∷ s))) t) w

-- u is the set of one of these lists
abbrev pub OneOf : LiteralSet → List (List Literal) → Type 0
OneOf u sets = (m : List Literal) × Memᴰ m sets × (u ≡ set_of m)

one-of-iff : (s : List Literal) (sets : List (List Literal)) → T (some_of (same_literals s) sets) ↔ OneOf (set_of s) sets
one-of-iff s sets = (
  λ t. let w = any_found (same_literals s) sets t in (w.0, w.1, (same-literals-iff s w.0).0 w.2),
  λ w. any-mem (same_literals s) w.1 ((same-literals-iff s w.0).1 w.2),
)

exactly-listed : (p : Program) (ls : List Literal) (sets : List (List Literal)) → T (exactly p ls sets) → T (all_parts ls (listed p sets))
unfolding exactly
exactly-listed p ls sets t = t

listed-iff : (p : Program) (sets : List (List Literal)) (s : List Literal) → T (listed p sets s) → AnswerSet p (set_of s) ↔ OneOf (set_of s) sets
unfolding listed
listed-iff p sets s t =
    Iff.trans (Iff.symm (finding-answer-set p s))
    (Iff.trans (Iff.symm (is-answer-set-iff (finding p s)))
    (Iff.trans (agree-iff (is_answer_set (finding p s)) (some_of (same_literals s) sets) t) (one-of-iff s sets)))

-- where the test passes, of all sets over the literals of ls exactly those of the lists are answer sets
pub exactly-within : (p : Program) (ls : List Literal) (sets : List (List Literal)) → T (exactly p ls sets)
    → (u : LiteralSet) → Subset u (set_of ls) → AnswerSet p u ↔ OneOf u sets
exactly-within p ls sets t u sub =
    subst (λ (v : LiteralSet). AnswerSet p v ↔ OneOf v sets) (set-of-filtered u ls sub)
    (listed-iff p sets (filtered u ls) (all-parts (listed p sets) (exactly-listed p ls sets t) (filtered-part u ls)))
