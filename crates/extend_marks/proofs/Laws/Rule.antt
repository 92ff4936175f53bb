-- Laws of the marks of the rule whose record starts a part: those that the code's three cases put behind the others.
-- In order: a strict rule; a rule all of whose options are defeated; one that has others.
-- Assumes nothing.
use Prim.Native.Nat.{ℕ, ◌<◌}
use native.Mathlib.Omega.{arith}
use mathlib.Core.Path.{◌≡◌, sym, ◌∙◌, ap₂, subst}
use mathlib.Core.Bool.{Bool, true, false}
use mathlib.Core.List.{List, [], ◌∷◌, map, append-nil}
use lib.Dec.{T}
use lib.ListN.{length, set}
use Rattle.literal.specs.declared.Tag.{Tag}
use Rattle.literal.specs.declared.SignedAtom.{SignedAtom}
use Rattle.literal.specs.declared.Literal.{Literal}
use Rattle.literal.specs.declared.Literal.TheVariants.{Defeated}
use Rattle.literal.specs.Order.{key}
use Rattle.semantics.specs.Set.{LiteralSet, each_of}
use Rattle.semantics.specs.Rule.{Rule, strict, defeasible}
use Rattle.semantics.specs.Translation.{rule_defeated}
use Rattle.semantics.specs.Extension.{defeated_rule}
use Rattle.record.specs.Header.{defeasible_letter, letter_of, head_count}
use Rattle.record_walk.specs.Code.{Starts, tag_at, options_at}
use Rattle.record_walk.proofs.Laws.Fields.{strict-fields, defeasible-fields}
use Rattle.record_walk.proofs.Laws.Options.{rule-options, rule-tag}
use Rattle.extend_marks.specs.Marks.{derived_marks, rule_marks}
use Rattle.extend_marks.specs.Code.{Gained}
use Rattle.extend_marks.proofs.Laws.Gained.{gained-none, gained-one}
use Rattle.extend_marks.proofs.Laws.Marks.{none-derived}

-- whether all options in the record that starts a part are defeated, and their derivation marks
abbrev pub defeated_at : LiteralSet → List ℕ → Bool
defeated_at s x = each_of (λ a. s (Defeated (tag_at x) a)) (options_at x 7 (head_count x))

abbrev pub derived_at : LiteralSet → List ℕ → List Literal
derived_at s x = derived_marks (tag_at x) (options_at x 7 (head_count x)) s

module _ (s : LiteralSet) (n : ℕ) where
  -- all options are defeated: the rule's own mark alone
  pub marks-defeated : (t : Tag) (h : List SignedAtom) (b c : List Literal) → each_of (λ a. s (Defeated t a)) h ≡ true
      → rule_marks n (defeasible t h b c) s ≡ rule_defeated n ∷ []
  unfolding rule_marks defeated_rule
  marks-defeated t h b c e = rw (none-derived t s h (subst T (sym e) tt), e)

  -- some are not: the derivation marks alone
  pub marks-open : (t : Tag) (h : List SignedAtom) (b c : List Literal) → each_of (λ a. s (Defeated t a)) h ≡ false
      → rule_marks n (defeasible t h b c) s ≡ derived_marks t h s
  unfolding rule_marks defeated_rule
  marks-open t h b c e = rw e (append-nil (derived_marks t h s))

  module _ (x : List ℕ) (d : List ℕ) (m : ℕ) where
    -- no D: a strict rule adds nothing
    pub gained-strict : (letter_of x ≡ defeasible_letter → ⊥) → (r : Rule) → Starts x r → Gained d d m 0 (map key (rule_marks n r s))
    unfolding rule_marks
    gained-strict e (strict h b c) w = gained-none d m
    gained-strict e (defeasible t h b c) w = absurd (e (defeasible-fields x t h b c w).of-letter)

    -- a rule all of whose options are defeated
    pub gained-defeated : (k : ℕ) → letter_of x ≡ defeasible_letter → defeated_at s x ≡ true → k ≡ key (rule_defeated n) → m < length d
        → (r : Rule) → Starts x r → Gained d (set d m k) m 1 (map key (rule_marks n r s))
    gained-defeated k e f is h (strict hs b c) w = absurd (omega (arith, (strict-fields x hs b c w).of-letter))
    gained-defeated k e f is h (defeasible t hs b c) w =
        let same = ap₂ (λ (u : Tag) (os : List SignedAtom). each_of (λ a. s (Defeated u a)) os) (rule-tag x t hs b c w) (rule-options x t hs b c w) in
        rw (marks-defeated t hs b c (sym same ∙ f), ← is) (gained-one d m k h)

    -- a rule that has others
    pub gained-open : {e : List ℕ} {q : ℕ} → letter_of x ≡ defeasible_letter → defeated_at s x ≡ false → Gained d e m q (map key (derived_at s x))
        → (r : Rule) → Starts x r → Gained d e m q (map key (rule_marks n r s))
    gained-open l f g (strict hs b c) w = absurd (omega (arith, (strict-fields x hs b c w).of-letter))
    gained-open {e} {q} l f g (defeasible t hs b c) w =
        let same = ap₂ (λ (u : Tag) (os : List SignedAtom). each_of (λ a. s (Defeated u a)) os) (rule-tag x t hs b c w) (rule-options x t hs b c w) in
        let marks = ap₂ (λ (u : Tag) (os : List SignedAtom). derived_marks u os s) (rule-tag x t hs b c w) (rule-options x t hs b c w) in
        subst (λ (ls : List Literal). Gained d e m q (map key ls)) (marks ∙ sym (marks-open t hs b c (sym same ∙ f))) g
