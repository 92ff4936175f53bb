-- Where literals lie in their order: literals of source kinds before all marks of a translation.
-- In order: the first key of a mark; marks from there on; literals before; the marks of a program.
-- Assumes nothing.
use Prim.Native.Nat.{ℕ, ◌*◌, ◌≤◌, ◌<◌}
use native.Mathlib.Omega.{arith}
use mathlib.Core.List.{List, [], ◌∷◌}
use lib.Dec.{T}
use Rattle.literal.specs.declared.Tag.{Tag}
use Rattle.literal.specs.declared.SignedAtom.{SignedAtom}
use Rattle.literal.specs.declared.SignedAtom.TheVariants.{Positive, Negative}
use Rattle.literal.specs.declared.Literal.{Literal}
use Rattle.literal.specs.declared.Literal.TheVariants.{Signed, Defeated, Derived, RuleDefeated}
use Rattle.literal.specs.Literal.{kind}
use Rattle.literal.specs.Order.{key}
use Rattle.literal.proofs.Laws.Literal.{Fits}
use Rattle.semantics.specs.Set.{LiteralSet, each_of}
use Rattle.semantics.specs.Rule.{Rule, strict, defeasible, Program}
use Rattle.semantics.specs.Translation.{rule_defeated}
use Rattle.semantics.specs.Extension.{source_kind}
use Rattle.semantics.proofs.Laws.Tests.{Each, first, second}
use Rattle.extend_marks.specs.Marks.{marks_from}
use Rattle.extend_marks.proofs.Laws.Each.{Adds, each-mark}
use Rattle.extend.proofs.Laws.Inserted.{Below, NotBelow}

-- the first key of a mark
abbrev pub first_mark : ℕ
first_mark = 4 * 65536 * 65536

-- derivation marks and rule-defeated marks come from there on
not-below-derived : (t : Tag) (a : SignedAtom) → first_mark ≤ key (Derived t a)
unfolding key kind
not-below-derived t (Positive a) = omega arith
not-below-derived t (Negative a) = omega arith

not-below-number : (n : ℕ) → first_mark ≤ key (rule_defeated n)
unfolding key kind
not-below-number n = omega arith

-- literals of source kinds whose fields fit two bytes come before
below-source : (l : Literal) → T (source_kind l) → Fits l → key l < first_mark
unfolding key kind source_kind
below-source (Signed (Positive a)) s f = omega (arith, f.0, f.1)
below-source (Signed (Negative a)) s f = omega (arith, f.0, f.1)
below-source (Defeated t (Positive a)) s f = omega (arith, f.0, f.1)
below-source (Defeated t (Negative a)) s f = omega (arith, f.0, f.1)
below-source (Derived t a) s f = absurd s
below-source (RuleDefeated n) s f = absurd s

pub below-literals : (ls : List Literal) → T (each_of source_kind ls) → Each Fits ls → Below first_mark ls
below-literals [] s f = tt
below-literals (l ∷ ls) s f = (below-source l (first (source_kind l) _ s) f.0, below-literals ls (second (source_kind l) _ s) f.1)

-- the marks of a program
pub not-below-marks : (s : LiteralSet) (n : ℕ) (p : Program) → NotBelow first_mark (marks_from n p s)
not-below-marks s n p = each-mark (λ l. first_mark ≤ key l) s n p (λ m r h k. go m r)
  where
    go : (m : ℕ) (r : Rule) → Adds (λ l. first_mark ≤ key l) m r
    go m (strict h b c) = tt
    go m (defeasible t h b c) = ((λ a k. not-below-derived t a), not-below-number m)
