-- Laws of quotients and models: rule by rule, and each rule's part in words.
-- In order: the quotient of an append; a model rule by rule; the options that are left; `Kept`, what a model
-- of a quotient must give of one rule; minimality in the handier form.
-- Assumes nothing.
use Prim.Native.Nat.{suc, ◌≤◌}
use native.Mathlib.Omega.{arith}
use mathlib.Core.Path.{◌≡◌, refl, sym, ◌∙◌, ap, subst}
use mathlib.Core.Bool.{Bool, true, false, cond, not, ◌&&◌, ◌||◌}
use mathlib.Core.Logic.{◌↔◌, ◌⊎◌, inl, inr}
use mathlib.Core.List.{List, [], ◌∷◌, ◌++◌, Memᴰ, nil≢cons}
use mathlib.Core.Option.{Option, none, some}
use lib.Dec.{T}
use lib.ListN.{length}
use Rattle.literal.specs.declared.Tag.{Tag}
use Rattle.literal.specs.declared.SignedAtom.{SignedAtom}
use Rattle.literal.specs.declared.Literal.{Literal}
use Rattle.literal.specs.declared.Literal.TheVariants.{Signed, Defeated}
use Rattle.semantics.specs.Set.{LiteralSet, some_of, each_of, Subset}
use Rattle.semantics.specs.Rule.{Rule, strict, defeasible, Program, Remainder}
use Rattle.semantics.specs.Meaning.{undefeated, unless_empty, remainder, with_remainder, quotient, holds, satisfied, models, Interpretation, AnswerSet}
use Rattle.semantics.proofs.Laws.Tests.{either, any-mem, along}
use Rattle.semantics.proofs.Laws.Set.{minimal-contains, contains-minimal}

with-remainder-append : (o : Option Remainder) (qs rs : List Remainder) → with_remainder o (qs ++ rs) ≡ with_remainder o qs ++ rs
unfolding with_remainder
with-remainder-append none qs rs = refl
with-remainder-append (some q) qs rs = refl

-- the quotient of an append is that of its parts
pub quotient-append : (p q : Program) (s : LiteralSet) → quotient (p ++ q) s ≡ quotient p s ++ quotient q s
unfolding quotient
quotient-append [] q s = refl
quotient-append (r ∷ p) q s =
    ap (with_remainder (remainder r s)) (quotient-append p q s) ∙ with-remainder-append (remainder r s) (quotient p s) (quotient q s)

models-with : (o : Option Remainder) (qs : List Remainder) (u : LiteralSet) → models (with_remainder o qs) u ≡ (satisfied o u && models qs u)
unfolding models with_remainder satisfied
models-with none qs u = refl
models-with (some q) qs u = refl

-- a model of a quotient, rule by rule: what is left of each rule holds
pub models-quotient : (p : Program) (s u : LiteralSet) → models (quotient p s) u ≡ each_of (λ r. satisfied (remainder r s) u) p
unfolding quotient models
models-quotient [] s u = refl
models-quotient (r ∷ p) s u =
    models-with (remainder r s) (quotient p s) u ∙ ap (λ b. satisfied (remainder r s) u && b) (models-quotient p s u)

-- some option of h is not defeated in s and is in u
abbrev pub Chosen : Tag → List SignedAtom → LiteralSet → LiteralSet → Type 0
Chosen t h s u = (a : SignedAtom) × Memᴰ a h × (T (s (Defeated t a)) → ⊥) × T (u (Signed a))

-- what is left of one option and of others
pub undefeated-cons : (t : Tag) (a : SignedAtom) (h : List SignedAtom) (s : LiteralSet) → undefeated t (a ∷ h) s ≡ undefeated t (a ∷ []) s ++ undefeated t h s
unfolding undefeated
undefeated-cons t a h s = go (s (Defeated t a))
  where
    go : (x : Bool) → cond x (undefeated t h s) (Signed a ∷ undefeated t h s) ≡ cond x [] (Signed a ∷ []) ++ undefeated t h s
    go true = refl
    go false = refl

-- no more are left than there are
pub undefeated-few : (t : Tag) (h : List SignedAtom) (s : LiteralSet) → length (undefeated t h s) ≤ length h
unfolding undefeated
undefeated-few t [] s = omega arith
undefeated-few t (a ∷ h) s = go (s (Defeated t a)) (undefeated-few t h s)
  where
    go : (x : Bool) → length (undefeated t h s) ≤ length h → length (cond x (undefeated t h s) (Signed a ∷ undefeated t h s)) ≤ suc (length h)
    go true k = omega arith
    go false k = omega arith

-- the options are all defeated where none is left
pub undefeated-none : (t : Tag) (h : List SignedAtom) (s : LiteralSet) → T (each_of (λ a. s (Defeated t a)) h) → undefeated t h s ≡ []
unfolding undefeated
undefeated-none t [] s d = refl
undefeated-none t (a ∷ h) s d = go (s (Defeated t a)) (undefeated-none t h s) d
  where
    go : (x : Bool) → (T (each_of (λ a. s (Defeated t a)) h) → undefeated t h s ≡ []) → T (x && each_of (λ a. s (Defeated t a)) h)
        → cond x (undefeated t h s) (Signed a ∷ undefeated t h s) ≡ []
    go true ih e = ih e
    go false ih e = absurd e

pub none-undefeated : (t : Tag) (h : List SignedAtom) (s : LiteralSet) → undefeated t h s ≡ [] → T (each_of (λ a. s (Defeated t a)) h)
unfolding undefeated
none-undefeated t [] s e = tt
none-undefeated t (a ∷ h) s e = go (s (Defeated t a)) (none-undefeated t h s) e
  where
    go : (x : Bool) → (undefeated t h s ≡ [] → T (each_of (λ a. s (Defeated t a)) h))
        → cond x (undefeated t h s) (Signed a ∷ undefeated t h s) ≡ [] → T (x && each_of (λ a. s (Defeated t a)) h)
    go true ih e = ih e
    go false ih e = absurd (nil≢cons (sym e))

-- an option that is left and in u
pub undefeated-chosen : (t : Tag) (h : List SignedAtom) (s u : LiteralSet) → T (some_of u (undefeated t h s)) → Chosen t h s u
unfolding undefeated
undefeated-chosen t [] s u e = absurd e
undefeated-chosen t (a ∷ h) s u e = go (s (Defeated t a)) refl (undefeated-chosen t h s u) e
  where
    later : Chosen t h s u → Chosen t (a ∷ h) s u
    later w = (w.0, Memᴰ.tail w.1, w.2, w.3)

    here : s (Defeated t a) ≡ false → (T (some_of u (undefeated t h s)) → Chosen t h s u)
        → T (u (Signed a)) ⊎ T (some_of u (undefeated t h s)) → Chosen t (a ∷ h) s u
    here e ih (inl y) = (a, Memᴰ.head refl, along e, y)
    here e ih (inr y) = later (ih y)

    go : (x : Bool) → s (Defeated t a) ≡ x → (T (some_of u (undefeated t h s)) → Chosen t h s u)
        → T (some_of u (cond x (undefeated t h s) (Signed a ∷ undefeated t h s))) → Chosen t (a ∷ h) s u
    go true e ih y = later (ih y)
    go false e ih y = here e ih (either (u (Signed a)) (some_of u (undefeated t h s)) y)

pub undefeated-mem : (t : Tag) {a : SignedAtom} {h : List SignedAtom} (s : LiteralSet) → Memᴰ a h → (T (s (Defeated t a)) → ⊥)
    → Memᴰ (Signed a) (undefeated t h s)
unfolding undefeated
undefeated-mem t {a} s (Memᴰ.head {x} {xs} e) n = go (s (Defeated t x)) refl
  where
    go : (y : Bool) → s (Defeated t x) ≡ y → Memᴰ (Signed a) (cond y (undefeated t xs s) (Signed x ∷ undefeated t xs s))
    go true q = absurd (n (subst (λ (z : SignedAtom). T (s (Defeated t z))) (sym e) (along (sym q) tt)))
    go false q = Memᴰ.head (ap Signed e)
undefeated-mem t {a} s (Memᴰ.tail {x} {xs} m) n = go (s (Defeated t x)) (undefeated-mem t s m n)
  where
    go : (y : Bool) → Memᴰ (Signed a) (undefeated t xs s) → Memᴰ (Signed a) (cond y (undefeated t xs s) (Signed x ∷ undefeated t xs s))
    go true ih = ih
    go false ih = Memᴰ.tail ih

-- what a model u of the quotient by s must give of one rule
abbrev pub Kept : Rule → LiteralSet → LiteralSet → Type 0
Kept (strict h b c) s u = (T (some_of s c) → ⊥) → T (each_of u b) → T (some_of u h)
Kept (defeasible t h b c) s u =
    (T (some_of s c) → ⊥) → (T (each_of (λ a. s (Defeated t a)) h) → ⊥) → T (each_of u b) → Chosen t h s u

implies : (x y : Bool) → T (not x || y) ↔ (T x → T y)
implies true y = (λ t x. t, λ f. f tt)
implies false y = (λ t x. absurd x, λ f. tt)

pub kept-iff : (r : Rule) (s u : LiteralSet) → T (satisfied (remainder r s) u) ↔ Kept r s u
unfolding remainder satisfied holds unless_empty
kept-iff (strict h b c) s u = go (some_of s c)
  where
    go : (x : Bool) → T (satisfied (cond x none (some (record { head = h; positive = b }))) u) ↔ ((T x → ⊥) → T (each_of u b) → T (some_of u h))
    go true = (λ t n. absurd (n tt), λ f. tt)
    go false = (λ t n. (implies (each_of u b) (some_of u h)).0 t, λ f. (implies (each_of u b) (some_of u h)).1 (f (λ z. z)))
kept-iff (defeasible t h b c) s u = go (some_of s c)
  where
    all_out : Type 0
    all_out = T (each_of (λ a. s (Defeated t a)) h)

    left : (ls : List Literal) → undefeated t h s ≡ ls → T (satisfied (unless_empty ls b) u) ↔ ((all_out → ⊥) → T (each_of u b) → T (some_of u ls))
    left [] e = (λ y n d. n (none-undefeated t h s e), λ f. tt)
    left (l ∷ ls) e = (
      λ y n. (implies (each_of u b) (some_of u (l ∷ ls))).0 y,
      λ f. (implies (each_of u b) (some_of u (l ∷ ls))).1 (f (λ d. nil≢cons (sym (undefeated-none t h s d) ∙ e))),
    )

    back : Chosen t h s u → T (some_of u (undefeated t h s))
    back w = any-mem u (undefeated-mem t s w.1 w.2) w.3

    go : (x : Bool) → T (satisfied (cond x none (unless_empty (undefeated t h s) b)) u) ↔ ((T x → ⊥) → (all_out → ⊥) → T (each_of u b) → Chosen t h s u)
    go true = (λ t n. absurd (n tt), λ f. tt)
    go false = (
      λ y n d body. undefeated-chosen t h s u ((left (undefeated t h s) refl).0 y d body),
      λ f. (left (undefeated t h s) refl).1 (λ d body. back (f (λ z. z) d body)),
    )

-- an answer set is a consistent model of its quotient that every smaller model contains
pub answer-set-contains : {p : Program} {s : LiteralSet} → AnswerSet p s → (u : LiteralSet) → Subset u s → T (models (quotient p s) u) → Subset s u
answer-set-contains {p} {s} a = minimal-contains s (λ u. T (models (quotient p s) u)) a.minimal

pub answer-set-intro : (p : Program) (s : LiteralSet) → Interpretation s → T (models (quotient p s) s)
    → ((u : LiteralSet) → Subset u s → T (models (quotient p s) u) → Subset s u) → AnswerSet p s
answer-set-intro p s c m f =
    record { consistent = c; model = m; minimal = contains-minimal s (λ u. T (models (quotient p s) u)) f }
