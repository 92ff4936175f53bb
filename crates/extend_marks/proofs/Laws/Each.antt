-- A property of each literal of a list: which marks must have it for each mark that a program's rules add to have it.
-- In order: what is asked of a rule; derivation marks; the marks of a rule and of a program; that they are marks.
-- Assumes nothing.
use Prim.Native.Nat.{ℕ, ◌+◌, ◌<◌}
use native.Mathlib.Omega.{arith}
use mathlib.Core.Path.{refl}
use mathlib.Core.Bool.{Bool, true, false, cond, not, ◌&&◌}
use mathlib.Core.List.{List, [], ◌∷◌, Memᴰ}
use lib.Dec.{T}
use lib.ListN.{length}
use Rattle.literal.specs.declared.Tag.{Tag}
use Rattle.literal.specs.declared.SignedAtom.{SignedAtom}
use Rattle.literal.specs.declared.Literal.{Literal}
use Rattle.literal.specs.declared.Literal.TheVariants.{Signed, Defeated, Derived}
use Rattle.semantics.specs.Set.{LiteralSet}
use Rattle.semantics.specs.Rule.{Rule, strict, defeasible, Program}
use Rattle.semantics.specs.Translation.{rule_defeated}
use Rattle.semantics.specs.Extension.{defeated_rule, source_kind}
use Rattle.semantics.proofs.Laws.Tests.{Each, each_append}
use Rattle.extend_marks.specs.Marks.{derived_marks, rule_marks, marks_from}

-- the derivation marks of a rule's options, and rule-defeated n, have it
abbrev pub Adds : (Literal → Type 0) → ℕ → Rule → Type 0
Adds Q n (strict h b c) = Unit
Adds Q n (defeasible t h b c) = ((a : SignedAtom) → Memᴰ a h → Q (Derived t a)) × Q (rule_defeated n)

module _ (Q : Literal → Type 0) (s : LiteralSet) where
  each-derived : (t : Tag) (h : List SignedAtom) → ((a : SignedAtom) → Memᴰ a h → Q (Derived t a)) → Each Q (derived_marks t h s)
  unfolding derived_marks
  each-derived t [] f = tt
  each-derived t (a ∷ h) f = go (s (Signed a) && not (s (Defeated t a))) (each-derived t h (λ b m. f b (Memᴰ.tail m)))
    where
      go : (c : Bool) → Each Q (derived_marks t h s) → Each Q (cond c (Derived t a ∷ derived_marks t h s) (derived_marks t h s))
      go true ih = (f a (Memᴰ.head refl), ih)
      go false ih = ih

  each-rule : (n : ℕ) (r : Rule) → Adds Q n r → Each Q (rule_marks n r s)
  unfolding rule_marks
  each-rule n (strict h b c) f = tt
  each-rule n (defeasible t h b c) f =
      each_append Q (derived_marks t h s) (cond (defeated_rule s (defeasible t h b c)) (rule_defeated n ∷ []) []) (each-derived t h f.0)
      (go (defeated_rule s (defeasible t h b c)))
    where
      go : (d : Bool) → Each Q (cond d (rule_defeated n ∷ []) [])
      go true = (f.1, tt)
      go false = tt

  -- each mark of a program has it where those of its rules do, by their numbers
  pub each-mark : (n : ℕ) (p : Program) → ((m : ℕ) (r : Rule) → m < n + length p → Memᴰ r p → Adds Q m r) → Each Q (marks_from n p s)
  unfolding marks_from
  each-mark n [] f = tt
  each-mark n (r ∷ p) f =
      each_append Q (rule_marks n r s) (marks_from (n + 1) p s) (each-rule n r (f n r (omega arith) (Memᴰ.head refl)))
      (each-mark (n + 1) p (λ m q h k. f m q (omega arith) (Memᴰ.tail k)))

-- a literal of kinds 4 to 6
abbrev pub is_mark : Literal → Bool
is_mark l = not (source_kind l)

-- what a program adds is such literals
pub marks-are : (s : LiteralSet) (n : ℕ) (p : Program) → Each (λ l. T (is_mark l)) (marks_from n p s)
unfolding source_kind
marks-are s n p = each-mark (λ l. T (is_mark l)) s n p (λ m r h k. go m r)
  where
    go : (m : ℕ) (r : Rule) → Adds (λ l. T (is_mark l)) m r
    go m (strict h b c) = tt
    go m (defeasible t h b c) = ((λ a k. tt), tt)
