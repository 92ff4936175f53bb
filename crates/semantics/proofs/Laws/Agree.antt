-- Two sets that hold the same of the literals that a rule speaks of leave the same of it.
-- In order: the literals that a rule speaks of; options, a rule and a program in two sets; the literals of what is left.
-- Assumes nothing.
use mathlib.Core.Path.{◌≡◌, refl, ap, ap₂}
use mathlib.Core.Bool.{Bool, true, false, cond}
use mathlib.Core.List.{List, [], ◌∷◌, map}
use mathlib.Core.Option.{Option, none, some}
use Rattle.literal.specs.declared.Tag.{Tag}
use Rattle.literal.specs.declared.SignedAtom.{SignedAtom}
use Rattle.literal.specs.declared.Literal.{Literal}
use Rattle.literal.specs.declared.Literal.TheVariants.{Signed, Defeated}
use Rattle.semantics.specs.Set.{LiteralSet, some_of, each_of}
use Rattle.semantics.specs.Rule.{Rule, strict, defeasible, Program, Remainder, head, positive, naf}
use Rattle.semantics.specs.Meaning.{undefeated, unless_empty, remainder, with_remainder, quotient}
use Rattle.semantics.proofs.Laws.Tests.{Each, each-mem, any-agree, all-agree}

-- the defeat marks of a rule's options
unfoldable pub defeat_marks : Rule → List Literal
defeat_marks (strict h b c) = []
defeat_marks (defeasible t h b c) = map (Defeated t) h

-- each literal that a rule speaks of has P
pub record Speaks (P : Literal → Type 0) (r : Rule) : Type 0 where
  pub heads : Each P (head r)
  pub positives : Each P (positive r)
  pub nafs : Each P (naf r)
  pub marks : Each P (defeat_marks r)

-- each literal of what is left of a rule has P
abbrev pub Left : (Literal → Type 0) → Option Remainder → Type 0
Left P none = Unit
Left P (some q) = Each P q.head × Each P q.positive

module _ (P : Literal → Type 0) where
  -- of options, what is left
  pub each-undefeated : (t : Tag) (h : List SignedAtom) (s : LiteralSet) → Each P (map Signed h) → Each P (undefeated t h s)
  unfolding undefeated
  each-undefeated t [] s e = tt
  each-undefeated t (a ∷ h) s e = go (s (Defeated t a)) (each-undefeated t h s e.1)
    where
      go : (x : Bool) → Each P (undefeated t h s) → Each P (cond x (undefeated t h s) (Signed a ∷ undefeated t h s))
      go true k = k
      go false k = (e.0, k)

  -- of a rule
  pub each-remainder : (r : Rule) (s : LiteralSet) → Speaks P r → Left P (remainder r s)
  unfolding remainder head positive unless_empty
  each-remainder (strict h b c) s w = go (some_of s c)
    where
      go : (x : Bool) → Left P (cond x none (some (record { head = h; positive = b })))
      go true = tt
      go false = (w.heads, w.positives)
  each-remainder (defeasible t h b c) s w = go (some_of s c) (undefeated t h s) (each-undefeated t h s w.heads)
    where
      go : (x : Bool) (ls : List Literal) → Each P ls → Left P (cond x none (unless_empty ls b))
      go true ls e = tt
      go false [] e = tt
      go false (l ∷ ls) e = (e, w.positives)

  module _ (s u : LiteralSet) (same : (l : Literal) → P l → s l ≡ u l) where
    pub any_same : (ls : List Literal) → Each P ls → some_of s ls ≡ some_of u ls
    any_same ls e = any-agree ls (λ l m. same l (each-mem P e m))

    pub all_same : (ls : List Literal) → Each P ls → each_of s ls ≡ each_of u ls
    all_same ls e = all-agree ls (λ l m. same l (each-mem P e m))

    undefeated-same : (t : Tag) (h : List SignedAtom) → Each P (map (Defeated t) h) → undefeated t h s ≡ undefeated t h u
    unfolding undefeated
    undefeated-same t [] e = refl
    undefeated-same t (a ∷ h) e =
        ap₂ (λ (x : Bool) (ls : List Literal). cond x ls (Signed a ∷ ls)) (same (Defeated t a) e.0) (undefeated-same t h e.1)

    pub remainder-same : (r : Rule) → Speaks P r → remainder r s ≡ remainder r u
    unfolding remainder naf defeat_marks
    remainder-same (strict h b c) w = ap (λ (x : Bool). cond x none (some (record { head = h; positive = b }))) (any_same c w.nafs)
    remainder-same (defeasible t h b c) w =
        ap₂ (λ (x : Bool) (ls : List Literal). cond x none (unless_empty ls b)) (any_same c w.nafs) (undefeated-same t h w.marks)

    pub quotient-same : (p : Program) → Each (Speaks P) p → quotient p s ≡ quotient p u
    unfolding quotient
    quotient-same [] w = refl
    quotient-same (r ∷ p) w = ap₂ with_remainder (remainder-same r w.0) (quotient-same p w.1)
