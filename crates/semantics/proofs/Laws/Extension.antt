-- Laws of extension and restriction: what an extension holds of each kind, and that restriction takes it back.
-- In order: literals of source kinds; sets that agree on them; derived marks; rule-defeated marks; restriction.
-- Assumes nothing.
use Prim.Native.Nat.{ℕ}
use mathlib.Core.Path.{◌≡◌, refl, sym, ◌∙◌, ap}
use mathlib.Core.Bool.{not, ◌&&◌, or-false}
use mathlib.Core.Logic.{⊎_elim}
use mathlib.Core.List.{List, Memᴰ}
use lib.Dec.{T}
use Rattle.literal.specs.declared.Tag.{Tag}
use Rattle.literal.specs.declared.RuleNo.{RuleNo}
use Rattle.literal.specs.declared.SignedAtom.{SignedAtom}
use Rattle.literal.specs.declared.Literal.{Literal}
use Rattle.literal.specs.declared.Literal.TheVariants.{Signed, Defeated, Derived, RuleDefeated}
use Rattle.semantics.specs.Set.{LiteralSet, some_of, each_of}
use Rattle.semantics.specs.Rule.{Rule, defeasible, Program}
use Rattle.semantics.specs.Extension.{offers, defeated_rule, defeated_from, added, extension, source_kind, restriction}
use Rattle.semantics.specs.Form.{SourceSet}
use Rattle.semantics.proofs.Laws.Tests.{first, second, both, right, either, fails, refuted, any-agree, all-agree, all-mem, along}
use Rattle.semantics.proofs.Laws.Set.{set-ext}
use Rattle.semantics.proofs.Laws.Position.{At, Offer, offer-found, offer-any, defeated-found, defeated-at}

-- two sets hold the same literals of source kinds
abbrev pub Agree : LiteralSet → LiteralSet → Type 0
Agree s u = (l : Literal) → T (source_kind l) → s l ≡ u l

pub any-source : {s u : LiteralSet} (ls : List Literal) → Agree s u → T (each_of source_kind ls) → some_of s ls ≡ some_of u ls
any-source ls e k = any-agree ls (λ l m. e l (all-mem source_kind k m))

pub all-source : {s u : LiteralSet} (ls : List Literal) → Agree s u → T (each_of source_kind ls) → each_of s ls ≡ each_of u ls
all-source ls e k = all-agree ls (λ l m. e l (all-mem source_kind k m))

-- an extension adds no literal of a source kind
pub extension-agree : (p : Program) (s : LiteralSet) → Agree (extension p s) s
unfolding extension added source_kind
extension-agree p s (Signed a) k = or-false (s (Signed a))
extension-agree p s (Defeated t a) k = or-false (s (Defeated t a))
extension-agree p s (Derived t a) k = absurd k
extension-agree p s (RuleDefeated n) k = absurd k

pub restriction-agree : (s : LiteralSet) → Agree (restriction s) s
unfolding restriction source_kind
restriction-agree s (Signed a) k = refl
restriction-agree s (Defeated t a) k = refl
restriction-agree s (Derived t a) k = absurd k
restriction-agree s (RuleDefeated n) k = absurd k

-- options and defeat marks are of source kinds
pub agree-signed : {s u : LiteralSet} → Agree s u → (a : SignedAtom) → s (Signed a) ≡ u (Signed a)
unfolding source_kind
agree-signed e a = e (Signed a) tt

pub agree-defeated : {s u : LiteralSet} → Agree s u → (t : Tag) (a : SignedAtom) → s (Defeated t a) ≡ u (Defeated t a)
unfolding source_kind
agree-defeated e t a = e (Defeated t a) tt

-- a source set holds no mark of a translation
no-derived : (s : LiteralSet) → SourceSet s → (t : Tag) (a : SignedAtom) → T (s (Derived t a)) → ⊥
unfolding source_kind
no-derived s k t a y = k (Derived t a) y

no-defeated-rule : (s : LiteralSet) → SourceSet s → (n : RuleNo) → T (s (RuleDefeated n)) → ⊥
unfolding source_kind
no-defeated-rule s k n y = k (RuleDefeated n) y

-- what a derived mark of an extension says
pub record DerivedMark (p : Program) (s : LiteralSet) (t : Tag) (a : SignedAtom) : Type 0 where
  pub offer : Offer 1 p t a
  pub holds : T (s (Signed a))
  pub undefeated : T (s (Defeated t a)) → ⊥

pub extension-derived : (p : Program) (s : LiteralSet) → SourceSet s → (t : Tag) (a : SignedAtom) → T (extension p s (Derived t a)) → DerivedMark p s t a
unfolding extension added
extension-derived p s k t a y = ⊎_elim (λ z. absurd (no-derived s k t a z)) found (either (s (Derived t a)) (added p s (Derived t a)) y)
  where
    found : T (some_of (offers t a) p && (s (Signed a) && not (s (Defeated t a)))) → DerivedMark p s t a
    found z =
        let w = second (some_of (offers t a) p) (s (Signed a) && not (s (Defeated t a))) z in
        record {
          offer = offer-found 1 p t a (first (some_of (offers t a) p) (s (Signed a) && not (s (Defeated t a))) z);
          holds = first (s (Signed a)) (not (s (Defeated t a))) w;
          undefeated = fails (s (Defeated t a)) (second (s (Signed a)) (not (s (Defeated t a))) w);
        }

pub derived-extension : (p : Program) (s : LiteralSet) {n : ℕ} {t : Tag} {h : List SignedAtom} {b c : List Literal} {a : SignedAtom}
    → At n (defeasible t h b c) 1 p → Memᴰ a h → T (s (Signed a)) → (T (s (Defeated t a)) → ⊥) → T (extension p s (Derived t a))
unfolding extension added
derived-extension p s {t} {a} at m y n =
    right (s (Derived t a)) (added p s (Derived t a))
    (both (some_of (offers t a) p) (s (Signed a) && not (s (Defeated t a))) (offer-any at m)
    (both (s (Signed a)) (not (s (Defeated t a))) y (refuted (s (Defeated t a)) n)))

-- what a rule-defeated mark of an extension says
pub extension-defeated : (p : Program) (s : LiteralSet) → SourceSet s → (n : RuleNo) → T (extension p s (RuleDefeated n))
    → (r : Rule) × At n.0 r 1 p × T (defeated_rule s r)
unfolding extension added
extension-defeated p s k n y =
    defeated-found 1 p s n.0 (⊎_elim (λ z. absurd (no-defeated-rule s k n z)) (λ z. z) (either (s (RuleDefeated n)) (defeated_from 1 p s n.0) y))

pub defeated-extension : (p : Program) (s : LiteralSet) (n : RuleNo) {r : Rule} → At n.0 r 1 p → T (defeated_rule s r) → T (extension p s (RuleDefeated n))
unfolding extension added
defeated-extension p s n at d = right (s (RuleDefeated n)) (defeated_from 1 p s n.0) (defeated-at s at d)

-- a restriction is a source set
pub restriction-source : (s : LiteralSet) → SourceSet (restriction s)
unfolding restriction
restriction-source s l y = first (source_kind l) (s l) y

pub restriction-subset : (s : LiteralSet) (l : Literal) → T (restriction s l) → T (s l)
unfolding restriction
restriction-subset s l y = second (source_kind l) (s l) y

-- restriction takes an extension back
pub restriction-extension : (p : Program) (s : LiteralSet) → SourceSet s → restriction (extension p s) ≡ s
unfolding restriction
restriction-extension p s k =
    set-ext (restriction (extension p s)) s
    (λ l y. along (extension-agree p s l (first (source_kind l) (extension p s l) y)) (second (source_kind l) (extension p s l) y))
    (λ l y. both (source_kind l) (extension p s l) (k l y) (along (sym (extension-agree p s l (k l y))) y))

-- different source sets have different extensions
pub extension-injective : (p : Program) (s u : LiteralSet) → SourceSet s → SourceSet u → extension p s ≡ extension p u → s ≡ u
extension-injective p s u k j e =
    sym (restriction-extension p s k) ∙ ap restriction e ∙ restriction-extension p u j
