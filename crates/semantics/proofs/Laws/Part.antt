-- Parts of a list of literals: each literal absent or present, in the list's order (01, "Check": the subsets of a set).
-- In order: the first part that passes a test; a part as a set; the part that lies in a set.
-- Not here: what a part is, and the order of parts (`specs/Findings`).
-- Assumes nothing.
use mathlib.Core.Path.{◌≡◌, refl, sym, ◌∙◌, subst}
use mathlib.Core.Bool.{Bool, true, false, cond}
use mathlib.Core.List.Memᴰ
use mathlib.Core.List.{List, [], ◌∷◌, Memᴰ}
use mathlib.Core.Option.{Option, none, some, some-injective, none-ne-some, some-ne-none}
use lib.Dec.{T}
use Rattle.literal.specs.declared.Literal.{Literal}
use Rattle.semantics.specs.Set.{LiteralSet, Subset, set_of}
use Rattle.semantics.specs.Verdict.{or_else, with_literal, first_subset}
use Rattle.semantics.specs.Findings.{Part, nil, absent, present, Before}
use Rattle.semantics.proofs.Laws.Tests.{is_true, is_false, along}
use Rattle.semantics.proofs.Laws.Set.{set-of-mem, mem-set-of, set-ext}

-- s is the first part of ls that passes a test
pub record FirstPart (ls : List Literal) (test : List Literal → Bool) (s : List Literal) : Type 0 where
  pub part : Part s ls
  pub passes : T (test s)
  pub first : (t : List Literal) (v : Part t ls) → Before v part → T (test t) → ⊥

or_else_none : (o q : Option (List Literal)) → or_else o q ≡ none → (o ≡ none) × (q ≡ none)
unfolding or_else
or_else_none none q e = (refl, e)
or_else_none (some s) q e = absurd (some-ne-none s e)

with-literal-none : (l : Literal) (o : Option (List Literal)) → with_literal l o ≡ none → o ≡ none
unfolding with_literal
with-literal-none l none e = refl
with-literal-none l (some s) e = absurd (some-ne-none (l ∷ s) e)

-- where no part is found, none passes
pub first-none : {s ls : List Literal} (test : List Literal → Bool) → first_subset ls test ≡ none → Part s ls → T (test s) → ⊥
unfolding first_subset
first-none test e nil t = go (test []) e t
  where
    go : (b : Bool) → cond {A = Option (List Literal)} b (some []) none ≡ none → T b → ⊥
    go true e t = some-ne-none [] e
    go false e t = t
first-none test e (absent {l} {ls} w) t =
    first-none test (or_else_none (first_subset ls test) (with_literal l (first_subset ls (λ s. test (l ∷ s)))) e).0 w t
first-none test e (present {l} {ls} w) t =
    first-none (λ s. test (l ∷ s))
    (with-literal-none l (first_subset ls (λ s. test (l ∷ s)))
    (or_else_none (first_subset ls test) (with_literal l (first_subset ls (λ s. test (l ∷ s)))) e).1) w t

-- where no part passes, none is found
pub none_first : (ls : List Literal) (test : List Literal → Bool) → ((s : List Literal) → Part s ls → T (test s) → ⊥) → first_subset ls test ≡ none
unfolding first_subset or_else with_literal
none_first [] test h = rw (is_false (test []) (h [] nil))
none_first (l ∷ ls) test h =
    rw (none_first ls test (λ s w. h s (absent w)), none_first ls (λ s. test (l ∷ s)) (λ s w. h (l ∷ s) (present w)))

absent-first : (l : Literal) {ls : List Literal} {test : List Literal → Bool} {s : List Literal} → FirstPart ls test s → FirstPart (l ∷ ls) test s
absent-first l {ls} {test} {s} w = record { part = absent w.part; passes = w.passes; first = earlier }
  where
    earlier : (t : List Literal) (v : Part t (l ∷ ls)) → Before v (absent {l = l} w.part) → T (test t) → ⊥
    earlier t (absent v) b = w.first t v b
    earlier t (present v) b = absurd b

present-first : (l : Literal) {ls : List Literal} {s : List Literal} (test : List Literal → Bool) → first_subset ls test ≡ none
    → FirstPart ls (λ u. test (l ∷ u)) s → FirstPart (l ∷ ls) test (l ∷ s)
present-first l {ls} {s} test e w = record { part = present w.part; passes = w.passes; first = earlier }
  where
    earlier : (t : List Literal) (v : Part t (l ∷ ls)) → Before v (present {l = l} w.part) → T (test t) → ⊥
    earlier t (absent v) b = first-none test e v
    earlier t (present {s = u} v) b = w.first u v b

-- a part that is found is the first
pub first_some : (ls : List Literal) (test : List Literal → Bool) (s : List Literal) → first_subset ls test ≡ some s → FirstPart ls test s
unfolding first_subset or_else with_literal
first_some [] test s e = go (test []) refl e
  where
    only : test [] ≡ true → FirstPart [] test []
    only q = record { part = nil; passes = along (sym q) tt; first = earlier }
      where
        earlier : (t : List Literal) (v : Part t []) → Before v nil → T (test t) → ⊥
        earlier t nil b = absurd b

    go : (b : Bool) → test [] ≡ b → cond {A = Option (List Literal)} b (some []) none ≡ some s → FirstPart [] test s
    go true q e = subst (FirstPart [] test) (some-injective [] s e) (only q)
    go false q e = absurd (none-ne-some s e)
first_some (l ∷ ls) test s e =
    go (first_subset ls test) refl (first_subset ls (λ u. test (l ∷ u))) refl (first_some ls test) (first_some ls (λ u. test (l ∷ u))) e
  where
    later : List Literal → Bool
    later u = test (l ∷ u)

    go : (o : Option (List Literal)) → first_subset ls test ≡ o → (q : Option (List Literal)) → first_subset ls later ≡ q
        → ((u : List Literal) → first_subset ls test ≡ some u → FirstPart ls test u)
        → ((u : List Literal) → first_subset ls later ≡ some u → FirstPart ls later u)
        → or_else o (with_literal l q) ≡ some s → FirstPart (l ∷ ls) test s
    go (some u) eo q eq ih ih' e = absent-first l (ih s (eo ∙ e))
    go none eo (some u) eq ih ih' e = subst (FirstPart (l ∷ ls) test) (some-injective (l ∷ u) s e) (present-first l test eo (ih' u eq))
    go none eo none eq ih ih' e = absurd (none-ne-some s e)

part-found : {ls : List Literal} (test : List Literal → Bool) {s : List Literal} (w : Part s ls) → T (test s)
    → ((t : List Literal) (v : Part t ls) → Before v w → T (test t) → ⊥) → first_subset ls test ≡ some s
unfolding first_subset or_else with_literal
part-found test nil t h = rw (is_true (test []) t)
part-found test (absent {l} {ls} w) t h = rw (part-found test w t (λ u v. h u (absent v)))
part-found test (present {l} {ls} w) t h =
    rw (none_first ls test (λ u v. h u (absent v) tt), part-found (λ u. test (l ∷ u)) w t (λ u v. h (l ∷ u) (present v)))

-- the first part that passes is found
pub some_first : {ls : List Literal} (test : List Literal → Bool) {s : List Literal} → FirstPart ls test s → first_subset ls test ≡ some s
some_first test w = part-found test w.part w.passes w.first

-- a literal of a part is one of the list
pub part-mem : {s ls : List Literal} → Part s ls → {m : Literal} → Memᴰ m s → Memᴰ m ls
part-mem nil m = m
part-mem (absent w) m = Memᴰ.tail (part-mem w m)
part-mem (present w) (Memᴰ.head e) = Memᴰ.head e
part-mem (present w) (Memᴰ.tail m) = Memᴰ.tail (part-mem w m)

-- a part's set is a subset of the list's
pub part-subset : {s ls : List Literal} → Part s ls → Subset (set_of s) (set_of ls)
part-subset {s} w l t = set-of-mem (part-mem w (mem-set-of l s t))

-- the literals of a list that are in u, in order
unfoldable pub filtered : LiteralSet → List Literal → List Literal
filtered u [] = []
filtered u (l ∷ ls) = cond (u l) (l ∷ filtered u ls) (filtered u ls)

-- the literals of a list that are in u are a part of it
pub filtered-part : (u : LiteralSet) (ls : List Literal) → Part (filtered u ls) ls
unfolding filtered
filtered-part u [] = nil
filtered-part u (l ∷ ls) = go (u l) (filtered-part u ls)
  where
    go : (b : Bool) → Part (filtered u ls) ls → Part (cond b (l ∷ filtered u ls) (filtered u ls)) (l ∷ ls)
    go true w = present w
    go false w = absent w

filtered-in : (u : LiteralSet) (ls : List Literal) {m : Literal} → Memᴰ m (filtered u ls) → T (u m)
unfolding filtered
filtered-in u [] m = absurd (Memᴰ.not-nil m)
filtered-in u (l ∷ ls) {m} w = go (u l) refl (filtered-in u ls) w
  where
    kept : T (u l) → (Memᴰ m (filtered u ls) → T (u m)) → Memᴰ m (l ∷ filtered u ls) → T (u m)
    kept t ih (Memᴰ.head e) = subst (λ (z : Literal). T (u z)) (sym e) t
    kept t ih (Memᴰ.tail w) = ih w

    go : (b : Bool) → u l ≡ b → (Memᴰ m (filtered u ls) → T (u m)) → Memᴰ m (cond b (l ∷ filtered u ls) (filtered u ls)) → T (u m)
    go true q ih w = kept (along (sym q) tt) ih w
    go false q ih w = ih w

in-filtered : (u : LiteralSet) {m : Literal} {ls : List Literal} → Memᴰ m ls → T (u m) → Memᴰ m (filtered u ls)
unfolding filtered
in-filtered u (Memᴰ.head {x = l} {xs = ls} e) t =
    rw (is_true (u l) (subst (λ (z : Literal). T (u z)) e t)) (Memᴰ.head e)
in-filtered u {m} (Memᴰ.tail {x = l} {xs = ls} w) t = go (u l) (in-filtered u w t)
  where
    go : (b : Bool) → Memᴰ m (filtered u ls) → Memᴰ m (cond b (l ∷ filtered u ls) (filtered u ls))
    go true w = Memᴰ.tail w
    go false w = w

-- and their set is u, where u lies within the list
pub set-of-filtered : (u : LiteralSet) (ls : List Literal) → Subset u (set_of ls) → set_of (filtered u ls) ≡ u
set-of-filtered u ls sub =
    set-ext (set_of (filtered u ls)) u (λ l t. filtered-in u ls (mem-set-of l (filtered u ls) t))
    (λ l t. set-of-mem (in-filtered u (mem-set-of l ls (sub l t)) t))
