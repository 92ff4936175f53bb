-- The marks of a program, as a set, are what an extension adds.
-- In order: a rule's own mark; a rule's marks; a program's.
-- Assumes nothing.
use Prim.Native.Nat.{ℕ, ◌+◌}
use mathlib.Core.Path.{◌≡◌, refl, sym, ◌∙◌, ap, ap₂, subst}
use mathlib.Core.Bool.{Bool, true, false, cond, ◌&&◌, ◌||◌, and-false, or-false}
use mathlib.Core.List.{[], ◌∷◌}
use lib.Dec.{T, eqb, eqb→eq, eqb_refl}
use Rattle.literal.specs.declared.Tag.{Tag}
use Rattle.literal.specs.declared.RuleNo.{RuleNo}
use Rattle.literal.specs.declared.SignedAtom.{SignedAtom}
use Rattle.literal.specs.declared.Literal.{Literal}
use Rattle.literal.specs.declared.Literal.TheVariants.{Signed, Defeated, Derived, RuleDefeated}
use Rattle.semantics.specs.Set.{LiteralSet, some_of, same_tag, same_signed, same_literal, set_of}
use Rattle.semantics.specs.Rule.{Rule, strict, defeasible, Program}
use Rattle.semantics.specs.Translation.{rule_defeated}
use Rattle.semantics.specs.Extension.{offers, defeated_rule, defeated_from, added}
use Rattle.semantics.proofs.Laws.Tests.{any_append, same_test}
use Rattle.extend_marks.specs.Marks.{derived_marks, rule_marks, marks_from}
use Rattle.extend_marks.proofs.Laws.Derived.{derives, marked, in-derived, not-derived}

-- a rule's own mark, where c says so
in-number : (l : Literal) (n : ℕ) (c : Bool) → set_of (cond c (rule_defeated n ∷ []) []) l ≡ (same_literal l (rule_defeated n) && c)
in-number l n true = cases (same_literal l (rule_defeated n))
  where
    cases : (b : Bool) → (b || false) ≡ (b && true)
    cases true = refl
    cases false = refl
in-number l n false = sym (and-false (same_literal l (rule_defeated n)))

-- a rule's marks, as a set: derived marks, its own mark, and no others
rule-derived : (s : LiteralSet) (n : ℕ) (r : Rule) (t : Tag) (a : SignedAtom) → set_of (rule_marks n r s) (Derived t a) ≡ (offers t a r && derives s t a)
unfolding rule_marks offers
rule-derived s n (strict h b c) t a = refl
rule-derived s n (defeasible u h b c) t a =
    let d = defeated_rule s (defeasible u h b c) in
    any_append (same_literal (Derived t a)) (derived_marks u h s) (cond d (rule_defeated n ∷ []) [])
    ∙ ap₂ ◌||◌ (in-derived s t u a h) (in-number (Derived t a) n d)
    ∙ or-false (same_tag t u && some_of (same_signed a) h && derives s t a)

rule-other : (s : LiteralSet) (n : ℕ) (r : Rule) (l : Literal) → marked l ≡ false
    → set_of (rule_marks n r s) l ≡ (same_literal l (rule_defeated n) && defeated_rule s r)
unfolding rule_marks defeated_rule
rule-other s n (strict h b c) l e = sym (and-false (same_literal l (rule_defeated n)))
rule-other s n (defeasible u h b c) l e =
    let d = defeated_rule s (defeasible u h b c) in
    any_append (same_literal l) (derived_marks u h s) (cond d (rule_defeated n ∷ []) [])
    ∙ ap₂ ◌||◌ (not-derived l e s u h) (in-number l n d)

-- a test of a number, either way round
eqb_swap : (m n : ℕ) → eqb m n ≡ eqb n m
eqb_swap m n =
    same_test (eqb m n) (eqb n m) (λ y. subst (λ (k : ℕ). T (eqb k m)) (eqb→eq m n y) (eqb_refl m))
    (λ y. subst (λ (k : ℕ). T (eqb k n)) (eqb→eq n m y) (eqb_refl n))

-- a program's
or-and : (o m x : Bool) → (o && x || m && x) ≡ ((o || m) && x)
or-and true m true = refl
or-and true m false = and-false m
or-and false m x = refl

program-derived : (s : LiteralSet) (n : ℕ) (p : Program) (t : Tag) (a : SignedAtom)
    → set_of (marks_from n p s) (Derived t a) ≡ (some_of (offers t a) p && derives s t a)
unfolding marks_from
program-derived s n [] t a = refl
program-derived s n (r ∷ p) t a =
    any_append (same_literal (Derived t a)) (rule_marks n r s) (marks_from (n + 1) p s)
    ∙ ap₂ ◌||◌ (rule-derived s n r t a) (program-derived s (n + 1) p t a) ∙ or-and (offers t a r) (some_of (offers t a) p) (derives s t a)

program-number : (s : LiteralSet) (n : ℕ) (p : Program) (m : RuleNo) → set_of (marks_from n p s) (RuleDefeated m) ≡ defeated_from n p s m.0
unfolding marks_from defeated_from
program-number s n [] m = refl
program-number s n (r ∷ p) m =
    any_append (same_literal (RuleDefeated m)) (rule_marks n r s) (marks_from (n + 1) p s)
    ∙ ap₂ (λ (x y : Bool). x || y) (rule-other s n r (RuleDefeated m) refl ∙ ap (λ (b : Bool). b && defeated_rule s r) (eqb_swap m.0 n))
    (program-number s (n + 1) p m)

program-other : (s : LiteralSet) (n : ℕ) (p : Program) (l : Literal) → marked l ≡ false
    → ((k : ℕ) → same_literal l (rule_defeated k) ≡ false) → set_of (marks_from n p s) l ≡ false
unfolding marks_from
program-other s n [] l e f = refl
program-other s n (r ∷ p) l e f =
    any_append (same_literal l) (rule_marks n r s) (marks_from (n + 1) p s)
    ∙ ap₂ (λ (x y : Bool). x || y) (rule-other s n r l e ∙ ap (λ (b : Bool). b && defeated_rule s r) (f n)) (program-other s (n + 1) p l e f)

-- they are what an extension adds
pub marks-added : (p : Program) (s : LiteralSet) (l : Literal) → set_of (marks_from 1 p s) l ≡ added p s l
unfolding added
marks-added p s (Signed a) = program-other s 1 p (Signed a) refl (λ k. refl)
marks-added p s (Defeated t a) = program-other s 1 p (Defeated t a) refl (λ k. refl)
marks-added p s (Derived t a) = program-derived s 1 p t a
marks-added p s (RuleDefeated n) = program-number s 1 p n
