-- Two sets that hold the same of the literals that a program's rules speak of have the same marks.
-- In order: the options of a rule; a rule; a program.
-- Assumes nothing.
use Prim.Native.Nat.{ℕ, ◌+◌}
use mathlib.Core.Path.{◌≡◌, refl, ap₂}
use mathlib.Core.Bool.{Bool, cond, not, ◌&&◌}
use mathlib.Core.List.{List, [], ◌∷◌, ◌++◌, map}
use Rattle.literal.specs.declared.Tag.{Tag}
use Rattle.literal.specs.declared.SignedAtom.{SignedAtom}
use Rattle.literal.specs.declared.Literal.{Literal}
use Rattle.literal.specs.declared.Literal.TheVariants.{Signed, Defeated, Derived}
use Rattle.semantics.specs.Set.{LiteralSet, each_of}
use Rattle.semantics.specs.Rule.{Rule, strict, defeasible, Program, head}
use Rattle.semantics.specs.Translation.{rule_defeated}
use Rattle.semantics.specs.Extension.{defeated_rule}
use Rattle.semantics.proofs.Laws.Tests.{Each}
use Rattle.semantics.proofs.Laws.Agree.{defeat_marks, Speaks}
use Rattle.extend_marks.specs.Marks.{derived_marks, rule_marks, marks_from}

module _ (P : Literal → Type 0) (s u : LiteralSet) (same : (l : Literal) → P l → s l ≡ u l) where
  derived-same : (t : Tag) (h : List SignedAtom) → Each P (map Signed h) → Each P (map (Defeated t) h) → derived_marks t h s ≡ derived_marks t h u
  unfolding derived_marks
  derived-same t [] e d = refl
  derived-same t (a ∷ h) e d =
      ap₂ (λ (x : Bool) (ls : List Literal). cond x (Derived t a ∷ ls) ls)
      (ap₂ (λ (x y : Bool). x && not y) (same (Signed a) e.0) (same (Defeated t a) d.0)) (derived-same t h e.1 d.1)

  defeated-same : (t : Tag) (h : List SignedAtom) → Each P (map (Defeated t) h) → each_of (λ a. s (Defeated t a)) h ≡ each_of (λ a. u (Defeated t a)) h
  defeated-same t [] d = refl
  defeated-same t (a ∷ h) d = ap₂ ◌&&◌ (same (Defeated t a) d.0) (defeated-same t h d.1)

  rule-same : (n : ℕ) (r : Rule) → Speaks P r → rule_marks n r s ≡ rule_marks n r u
  unfolding rule_marks defeated_rule head defeat_marks
  rule-same n (strict h b c) w = refl
  rule-same n (defeasible t h b c) w =
      ap₂ (λ (ls : List Literal) (d : Bool). ls ++ cond d (rule_defeated n ∷ []) []) (derived-same t h w.heads w.marks) (defeated-same t h w.marks)

  -- a program adds the same marks
  pub marks-same : (n : ℕ) (p : Program) → Each (Speaks P) p → marks_from n p s ≡ marks_from n p u
  unfolding marks_from
  marks-same n [] w = refl
  marks-same n (r ∷ p) w = ap₂ ◌++◌ (rule-same n r w.0) (marks-same (n + 1) p w.1)
