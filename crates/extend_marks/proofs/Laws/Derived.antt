-- The derivation marks of options, as a set: a mark is one of them exactly if its option is derived, and nothing else is.
-- Assumes nothing.
use mathlib.Core.Path.{◌≡◌, refl, sym, ◌∙◌, ap, ap₂, subst}
use mathlib.Core.Bool.{Bool, true, false, cond, not, ◌&&◌, ◌||◌, and-false}
use mathlib.Core.List.{List, [], ◌∷◌}
use lib.Dec.{T}
use Rattle.literal.specs.declared.Tag.{Tag}
use Rattle.literal.specs.declared.SignedAtom.{SignedAtom}
use Rattle.literal.specs.declared.Literal.{Literal}
use Rattle.literal.specs.declared.Literal.TheVariants.{Signed, Defeated, Derived, RuleDefeated}
use Rattle.semantics.specs.Set.{LiteralSet, some_of, same_tag, same_signed, same_literal, set_of}
use Rattle.semantics.proofs.Laws.Set.{same-tag-eq, same-signed-eq}
use Rattle.extend_marks.specs.Marks.{derived_marks}

-- whether an option is derived in s
abbrev pub derives : LiteralSet → Tag → SignedAtom → Bool
derives s t a = s (Signed a) && not (s (Defeated t a))

-- one option more: it is the one that is asked for, or not
option-more : (g e m x y : Bool) → (g ≡ true → e ≡ true → y ≡ x) → (cond y (g && e) false || (g && m && x)) ≡ (g && (e || m) && x)
option-more true true m true y h = rw (h refl refl)
option-more true true m false y h = rw (h refl refl, and-false m)
option-more true false m x true h = refl
option-more true false m x false h = refl
option-more false e m x true h = refl
option-more false e m x false h = refl

-- a mark that stands first where c says so
mark-first : (l k : Literal) (ls : List Literal) (c : Bool) → set_of (cond c (k ∷ ls) ls) l ≡ (cond c (same_literal l k) false || set_of ls l)
mark-first l k ls true = refl
mark-first l k ls false = refl

-- the derivation marks of options
pub in-derived : (s : LiteralSet) (t u : Tag) (a : SignedAtom) (h : List SignedAtom)
    → set_of (derived_marks u h s) (Derived t a) ≡ (same_tag t u && some_of (same_signed a) h && derives s t a)
unfolding derived_marks
in-derived s t u a [] = rw (and-false (same_tag t u))
in-derived s t u a (b ∷ h) =
    mark-first (Derived t a) (Derived u b) (derived_marks u h s) (derives s u b)
    ∙ ap (λ (z : Bool). cond (derives s u b) (same_tag t u && same_signed a b) false || z) (in-derived s t u a h)
    ∙ option-more (same_tag t u) (same_signed a b) (some_of (same_signed a) h) (derives s t a) (derives s u b)
    (λ g e. ap₂ (derives s) (sym (same-tag-eq t u (rw g tt))) (sym (same-signed-eq a b (rw e tt))))

-- no other literal is one of them
abbrev pub marked : Literal → Bool
marked (Signed a) = false
marked (Defeated t a) = false
marked (Derived t a) = true
marked (RuleDefeated n) = false

pub not-derived : (l : Literal) → marked l ≡ false → (s : LiteralSet) (u : Tag) (h : List SignedAtom) → set_of (derived_marks u h s) l ≡ false
unfolding derived_marks
not-derived l e s u [] = refl
not-derived l e s u (b ∷ h) =
    mark-first l (Derived u b) (derived_marks u h s) (derives s u b)
    ∙ ap₂ (λ (x y : Bool). cond (derives s u b) x false || y) (apart l e) (not-derived l e s u h)
    ∙ neither (derives s u b)
  where
    apart : (l : Literal) → marked l ≡ false → same_literal l (Derived u b) ≡ false
    apart (Signed a) e = refl
    apart (Defeated t a) e = refl
    apart (Derived t a) e = absurd (subst T e tt)
    apart (RuleDefeated n) e = refl

    neither : (c : Bool) → (cond c false false || false) ≡ false
    neither true = refl
    neither false = refl
