-- Laws of the translation: of an append; what a model of its quotient must give of one source rule, rules (2) to (6)
-- by name. Assumes nothing.
use Prim.Native.Nat.{ℕ, ◌+◌}
use mathlib.Core.Path.{◌≡◌, refl, sym, subst, subst₂}
use mathlib.Core.Bool.{Bool, true, false, ◌&&◌, ◌||◌}
use mathlib.Core.Logic.{◌↔◌, ⊎_elim}
use mathlib.Core.List.{List, [], ◌∷◌, ◌++◌, Memᴰ}
use lib.Dec.{T}
use Rattle.literal.specs.declared.Tag.{Tag}
use Rattle.literal.specs.declared.SignedAtom.{SignedAtom}
use Rattle.literal.specs.declared.Literal.{Literal}
use Rattle.literal.specs.declared.Literal.TheVariants.{Signed, Defeated, Derived}
use Rattle.semantics.specs.Set.{LiteralSet, some_of, each_of}
use Rattle.semantics.specs.Rule.{Rule, strict, defeasible, Program}
use Rattle.semantics.specs.Meaning.{remainder, quotient, satisfied, models}
use Rattle.semantics.specs.Translation.{rule_defeated, choice, all_defeated, holds_if_derived, derived_if_holds, never_both, option, options, translated_rule, translation_from, translation}
use Rattle.semantics.proofs.Laws.Tests.{both, first, second, left, right, either, any-mem, any_found, any_append, all_append, any-map, all_map, along}
use Rattle.semantics.proofs.Laws.Meaning.{models-quotient, Kept, kept-iff}
use Rattle.semantics.proofs.Laws.Position.{At, here, there}

-- what a model u of the translation's quotient by s must give of defeasible rule n with tag t, options h, body b and
-- naf literals c
pub record Marked (n : ℕ) (t : Tag) (h : List SignedAtom) (b c : List Literal) (s u : LiteralSet) : Type 0 where
  -- (2)
  pub chosen : (T (some_of s c) → ⊥) → (T (s (rule_defeated n)) → ⊥) → T (each_of u b) → (a : SignedAtom) × Memᴰ a h × T (u (Derived t a))
  -- (3)
  pub ruled : T (each_of (λ a. u (Defeated t a)) h) → T (u (rule_defeated n))
  -- (4)
  pub holds : {a : SignedAtom} → Memᴰ a h → T (u (Derived t a)) → T (u (Signed a))
  -- (5)
  pub derived : {a : SignedAtom} → Memᴰ a h → T (u (Signed a)) → (T (s (Defeated t a)) → ⊥) → T (u (Derived t a))
  -- (6)
  pub never : {a : SignedAtom} → Memᴰ a h → T (u (Derived t a)) → T (u (Defeated t a)) → ⊥

-- what the rules of an option must give
pub record Option (t : Tag) (s u : LiteralSet) (a : SignedAtom) : Type 0 where
  pub holds : T (u (Derived t a)) → T (u (Signed a))
  pub derived : T (u (Signed a)) → (T (s (Defeated t a)) → ⊥) → T (u (Derived t a))
  pub never : T (u (Derived t a)) → T (u (Defeated t a)) → ⊥

-- what is left of each rule of a list holds
abbrev kept : LiteralSet → LiteralSet → List Rule → Bool
kept s u rs = each_of (λ r. satisfied (remainder r s) u) rs

-- a list's first rule, and the others
kept_cons : (s u : LiteralSet) (r : Rule) (rs : List Rule) → T (kept s u (r ∷ rs)) ↔ (Kept r s u × T (kept s u rs))
kept_cons s u r rs =
    let x = satisfied (remainder r s) u in (
      λ t. ((kept-iff r s u).0 (first x (kept s u rs) t), second x (kept s u rs) t),
      λ w. both x (kept s u rs) ((kept-iff r s u).1 w.0) w.1,
    )

-- a list of one literal
pub any-one : (s : LiteralSet) (l : Literal) → T (some_of s (l ∷ [])) → T (s l)
any-one s l t = ⊎_elim (λ y. y) (λ z. absurd z) (either (s l) false t)

pub one-any : (s : LiteralSet) (l : Literal) → T (s l) → T (some_of s (l ∷ []))
one-any s l t = left (s l) false t

all_one : (s : LiteralSet) (l : Literal) → T (each_of s (l ∷ [])) → T (s l)
all_one s l t = first (s l) true t

one-all : (s : LiteralSet) (l : Literal) → T (s l) → T (each_of s (l ∷ []))
one-all s l t = both (s l) true t tt

option-kept : (t : Tag) (s u : LiteralSet) (a : SignedAtom) → T (kept s u (option t a)) → Option t s u a
unfolding option holds_if_derived derived_if_holds never_both
option-kept t s u a y =
    let four = (kept_cons s u (holds_if_derived t a) (derived_if_holds t a ∷ never_both t a ∷ [])).0 y in
    let five = (kept_cons s u (derived_if_holds t a) (never_both t a ∷ [])).0 four.1 in
    let six = (kept_cons s u (never_both t a) []).0 five.1 in
    record {
      holds = λ d. any-one u (Signed a) (four.0 (λ z. z) (one-all u (Derived t a) d));
      derived = λ p n. any-one u (Derived t a) (five.0 (λ z. n (any-one s (Defeated t a) z)) (one-all u (Signed a) p));
      never = λ d e. six.0 (λ z. z) (both (u (Derived t a)) (u (Defeated t a) && true) d (one-all u (Defeated t a) e));
    }

option-intro : (t : Tag) (s u : LiteralSet) (a : SignedAtom) → Option t s u a → T (kept s u (option t a))
unfolding option holds_if_derived derived_if_holds never_both
option-intro t s u a o =
    let six : Kept (never_both t a) s u =
    λ n b. o.never (first (u (Derived t a)) (u (Defeated t a) && true) b) (all_one u (Defeated t a) (second (u (Derived t a)) (u (Defeated t a) && true) b)) in
    let five : Kept (derived_if_holds t a) s u =
    λ n b. one-any u (Derived t a) (o.derived (all_one u (Signed a) b) (λ d. n (one-any s (Defeated t a) d))) in
    let four : Kept (holds_if_derived t a) s u = λ n b. one-any u (Signed a) (o.holds (all_one u (Derived t a) b)) in
    (kept_cons s u (holds_if_derived t a) (derived_if_holds t a ∷ never_both t a ∷ [])).1
    (four, (kept_cons s u (derived_if_holds t a) (never_both t a ∷ [])).1 (five, (kept_cons s u (never_both t a) []).1 (six, tt)))

options-kept : (t : Tag) {a : SignedAtom} {h : List SignedAtom} (s u : LiteralSet) → T (kept s u (options t h)) → Memᴰ a h → Option t s u a
unfolding options
options-kept t {a} s u y (Memᴰ.head {x} {xs} e) =
    let k = along (all_append (λ r. satisfied (remainder r s) u) (option t x) (options t xs)) y in
    subst (Option t s u) (sym e) (option-kept t s u x (first (kept s u (option t x)) (kept s u (options t xs)) k))
options-kept t s u y (Memᴰ.tail {x} {xs} m) =
    let k = along (all_append (λ r. satisfied (remainder r s) u) (option t x) (options t xs)) y in
    options-kept t s u (second (kept s u (option t x)) (kept s u (options t xs)) k) m

options-intro : (t : Tag) (h : List SignedAtom) (s u : LiteralSet) → ((a : SignedAtom) → Memᴰ a h → Option t s u a) → T (kept s u (options t h))
unfolding options
options-intro t [] s u f = tt
options-intro t (a ∷ h) s u f =
    along (sym (all_append (λ r. satisfied (remainder r s) u) (option t a) (options t h)))
    (both (kept s u (option t a)) (kept s u (options t h)) (option-intro t s u a (f a (Memᴰ.head refl)))
    (options-intro t h s u (λ b m. f b (Memᴰ.tail m))))

-- (2): some derivation mark, unless the rule is gone from the quotient
choice-kept : (n : ℕ) (t : Tag) (h : List SignedAtom) (b c : List Literal) (s u : LiteralSet) → Kept (choice n t h b c) s u
    → (T (some_of s c) → ⊥) → (T (s (rule_defeated n)) → ⊥) → T (each_of u b) → (a : SignedAtom) × Memᴰ a h × T (u (Derived t a))
unfolding choice
choice-kept n t h b c s u k f g body = any_found (λ a. u (Derived t a)) h (along (any-map u (Derived t) h) (k absent body))
  where
    absent : T (some_of s (c ++ (rule_defeated n ∷ []))) → ⊥
    absent y =
        ⊎_elim f (λ z. g (any-one s (rule_defeated n) z)) (either (some_of s c) (some_of s (rule_defeated n ∷ [])) (along (any_append s c (rule_defeated n ∷ [])) y))

choice-intro : (n : ℕ) (t : Tag) (h : List SignedAtom) (b c : List Literal) (s u : LiteralSet)
    → ((T (some_of s c) → ⊥) → (T (s (rule_defeated n)) → ⊥) → T (each_of u b) → (a : SignedAtom) × Memᴰ a h × T (u (Derived t a)))
    → Kept (choice n t h b c) s u
unfolding choice
choice-intro n t h b c s u k f body =
    let w = k (λ y. f (within (left (some_of s c) (some_of s (rule_defeated n ∷ [])) y)))
    (λ y. f (within (right (some_of s c) (some_of s (rule_defeated n ∷ [])) (one-any s (rule_defeated n) y)))) body in
    along (sym (any-map u (Derived t) h)) (any-mem (λ a. u (Derived t a)) w.1 w.2)
  where
    within : T (some_of s c || some_of s (rule_defeated n ∷ [])) → T (some_of s (c ++ (rule_defeated n ∷ [])))
    within y = along (sym (any_append s c (rule_defeated n ∷ []))) y

-- a defeasible rule's translation, by (2) to (6)
pub marked : (n : ℕ) (t : Tag) (h : List SignedAtom) (b c : List Literal) (s u : LiteralSet)
    → T (kept s u (translated_rule n (defeasible t h b c))) → Marked n t h b c s u
unfolding translated_rule all_defeated
marked n t h b c s u y =
    let two = (kept_cons s u (choice n t h b c) (all_defeated n t h ∷ options t h)).0 y in
    let three = (kept_cons s u (all_defeated n t h) (options t h)).0 two.1 in
    record {
      chosen = choice-kept n t h b c s u two.0;
      ruled = λ d. any-one u (rule_defeated n) (three.0 (λ z. z) (along (sym (all_map u (Defeated t) h)) d));
      holds = λ m. (options-kept t s u three.1 m).holds;
      derived = λ m. (options-kept t s u three.1 m).derived;
      never = λ m. (options-kept t s u three.1 m).never;
    }

pub unmarked : (n : ℕ) (t : Tag) (h : List SignedAtom) (b c : List Literal) (s u : LiteralSet)
    → Marked n t h b c s u → T (kept s u (translated_rule n (defeasible t h b c)))
unfolding translated_rule all_defeated
unmarked n t h b c s u k =
    let three : Kept (all_defeated n t h) s u = λ f d. one-any u (rule_defeated n) (k.ruled (along (all_map u (Defeated t) h) d)) in
    let rest = options-intro t h s u (λ a m. record { holds = k.holds m; derived = k.derived m; never = k.never m }) in
    (kept_cons s u (choice n t h b c) (all_defeated n t h ∷ options t h)).1
    (choice-intro n t h b c s u k.chosen, (kept_cons s u (all_defeated n t h) (options t h)).1 (three, rest))

-- what a model u of the translation's quotient by s must give of source rule n
abbrev pub Translated : ℕ → Rule → LiteralSet → LiteralSet → Type 0
Translated n (strict h b c) s u = Kept (strict h b c) s u
Translated n (defeasible t h b c) s u = Marked n t h b c s u

translated-iff : (n : ℕ) (r : Rule) (s u : LiteralSet) → T (kept s u (translated_rule n r)) ↔ Translated n r s u
unfolding translated_rule
translated-iff n (strict h b c) s u =
    (λ y. ((kept_cons s u (strict h b c) []).0 y).0, λ k. (kept_cons s u (strict h b c) []).1 (k, tt))
translated-iff n (defeasible t h b c) s u = (marked n t h b c s u, unmarked n t h b c s u)

kept-split : (k : ℕ) (r : Rule) (p : Program) (s u : LiteralSet)
    → kept s u (translation_from k (r ∷ p)) ≡ (kept s u (translated_rule k r) && kept s u (translation_from (k + 1) p))
unfolding translation_from
kept-split k r p s u = all_append (λ q. satisfied (remainder q s) u) (translated_rule k r) (translation_from (k + 1) p)

kept_at : {n : ℕ} {r : Rule} {k : ℕ} {p : Program} (s u : LiteralSet) → T (kept s u (translation_from k p)) → At n r k p → T (kept s u (translated_rule n r))
kept_at {r} s u y (here {k} {q} {p} e f) =
    let z = first (kept s u (translated_rule k q)) (kept s u (translation_from (k + 1) p)) (along (kept-split k q p s u) y) in
    subst₂ (λ (m : ℕ) (w : Rule). T (kept s u (translated_rule m w))) e f z
kept_at s u y (there {k} {q} {p} a) =
    kept_at s u (second (kept s u (translated_rule k q)) (kept s u (translation_from (k + 1) p)) (along (kept-split k q p s u) y)) a

at-kept : (k : ℕ) (p : Program) (s u : LiteralSet) → ((n : ℕ) (r : Rule) → At n r k p → T (kept s u (translated_rule n r))) → T (kept s u (translation_from k p))
unfolding translation_from
at-kept k [] s u f = tt
at-kept k (r ∷ p) s u f =
    along (sym (kept-split k r p s u))
    (both (kept s u (translated_rule k r)) (kept s u (translation_from (k + 1) p)) (f k r (here refl refl))
    (at-kept (k + 1) p s u (λ n q a. f n q (there a))))

-- a model of the translation's quotient, source rule by source rule
pub models-translation : (p : Program) (s u : LiteralSet) → T (models (quotient (translation p) s) u) → {n : ℕ} {r : Rule} → At n r 1 p → Translated n r s u
unfolding translation
models-translation p s u y {n} {r} a =
    (translated-iff n r s u).0 (kept_at s u (along (models-quotient (translation p) s u) y) a)

pub translation-models : (p : Program) (s u : LiteralSet) → ((n : ℕ) (r : Rule) → At n r 1 p → Translated n r s u) → T (models (quotient (translation p) s) u)
unfolding translation
translation-models p s u f =
    along (sym (models-quotient (translation p) s u))
    (at-kept 1 p s u (λ n r a. (translated-iff n r s u).1 (f n r a)))
