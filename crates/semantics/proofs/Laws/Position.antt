-- A rule's number is its position: each rule has one number, and each number one rule.
-- In order: the rule at a number; numbers are unique; a test of every rule; of an append; the numbers of defeasible rules; options and
-- defeated rules by number.
-- Assumes nothing.
use Prim.Native.Nat.{ℕ, ◌+◌, ◌≤◌, ◌<◌}
use native.Mathlib.Omega.{arith}
use mathlib.Core.Path.{◌≡◌, refl, sym, ◌∙◌, ap, subst}
use mathlib.Core.Bool.{Bool, ◌&&◌}
use mathlib.Core.Logic.{◌⊎◌, inl, inr}
use mathlib.Core.List.Memᴰ
use mathlib.Core.List.{List, [], ◌∷◌, ◌++◌, Memᴰ}
use lib.Dec.{T, eqb, eqb→eq, eqb_refl}
use lib.ListN.{length}
use Rattle.literal.specs.declared.Tag.{Tag}
use Rattle.literal.specs.declared.SignedAtom.{SignedAtom}
use Rattle.literal.specs.declared.Literal.{Literal}
use Rattle.semantics.specs.Set.{LiteralSet, some_of, each_of, same_tag, same_signed}
use Rattle.semantics.specs.Rule.{Rule, strict, defeasible, Program}
use Rattle.semantics.specs.Extension.{offers, defeated_rule, defeated_from}
use Rattle.semantics.specs.Meaning.{remainder, quotient, satisfied, models}
use Rattle.semantics.proofs.Laws.Tests.{both, first, second, left, right, either, any-mem, any_found, along}
use Rattle.semantics.proofs.Laws.Meaning.{models-quotient, Kept, kept-iff}
use Rattle.semantics.proofs.Laws.Set.{same-tag-eq, same-tag-refl, same-signed-eq, same-signed-refl}

-- in a program whose first rule has number k, rule number n is r
pub data At (n : ℕ) (r : Rule) : ℕ → Program → Type 0 where
  here : {k : ℕ} {q : Rule} {p : Program} → k ≡ n → q ≡ r → At n r k (q ∷ p)
  there : {k : ℕ} {q : Rule} {p : Program} → At n r (k + 1) p → At n r k (q ∷ p)

pub at_from : {n : ℕ} {r : Rule} {k : ℕ} {p : Program} → At n r k p → k ≤ n
at_from (here e f) = omega arith
at_from (there a) = omega (arith, at_from a)

-- one number, one rule
pub at-unique : {n : ℕ} {r t : Rule} {k : ℕ} {p : Program} → At n r k p → At n t k p → r ≡ t
at-unique (here e f) (here g h) = sym f ∙ h
at-unique (here e f) (there b) = absurd (omega (arith, at_from b))
at-unique (there a) (here g h) = absurd (omega (arith, at_from a))
at-unique (there a) (there b) = at-unique a b

-- a test of every rule passes at every number
pub all-at : (f : Rule → Bool) {n : ℕ} {r : Rule} {k : ℕ} {p : Program} → T (each_of f p) → At n r k p → T (f r)
all-at f t (here {q} {p} e g) = subst (λ (z : Rule). T (f z)) g (first (f q) (each_of f p) t)
all-at f t (there {q} {p} a) = all-at f (second (f q) (each_of f p) t) a

pub at_all : (f : Rule → Bool) (k : ℕ) (p : Program) → ((n : ℕ) (r : Rule) → At n r k p → T (f r)) → T (each_of f p)
at_all f k [] h = tt
at_all f k (q ∷ p) h = both (f q) (each_of f p) (h k q (here refl refl)) (at_all f (k + 1) p (λ n r a. h n r (there a)))

-- a rule with a number is a rule of the program
pub at_mem : {n : ℕ} {r : Rule} {k : ℕ} {p : Program} → At n r k p → Memᴰ r p
at_mem (here e f) = Memᴰ.head (sym f)
at_mem (there a) = Memᴰ.tail (at_mem a)

-- its number is at most the program's length
pub at-below : {n : ℕ} {r : Rule} {k : ℕ} {p : Program} → At n r k p → n < k + length p
at-below (here {p} e f) = omega arith
at-below (there {p} a) = omega (arith, at-below a)

-- in an append it stands in the one or in the other, whose numbers go on
pub at-append : {n : ℕ} {r : Rule} (k : ℕ) (p q : Program) → At n r k (p ++ q) → At n r k p ⊎ At n r (k + length p) q
at-append {n} {r} k [] q a = inr (subst (λ (m : ℕ). At n r m q) (omega arith) a)
at-append k (x ∷ p) q (here e f) = inl (here e f)
at-append {n} {r} k (x ∷ p) q (there a) = go (at-append (k + 1) p q a)
  where
    go : At n r (k + 1) p ⊎ At n r (k + 1 + length p) q → At n r k (x ∷ p) ⊎ At n r (k + length (x ∷ p)) q
    go (inl b) = inl (there b)
    go (inr b) = inr (subst (λ (m : ℕ). At n r m q) (omega arith) b)

-- in a program whose first rule has number k, no defeasible rule has a number above m
abbrev pub Numbered : ℕ → ℕ → Program → Type 0
Numbered m k p = (n : ℕ) (t : Tag) (h : List SignedAtom) (b c : List Literal) → At n (defeasible t h b c) k p → n ≤ m

-- a model of a quotient, number by number
pub models-at : {p : Program} (k : ℕ) (s u : LiteralSet) → T (models (quotient p s) u) → {n : ℕ} {r : Rule} → At n r k p → Kept r s u
models-at {p} k s u y {r} a = (kept-iff r s u).0 (all-at (λ q. satisfied (remainder q s) u) (along (models-quotient p s u) y) a)

pub at-models : (k : ℕ) (p : Program) (s u : LiteralSet) → ((n : ℕ) (r : Rule) → At n r k p → Kept r s u) → T (models (quotient p s) u)
at-models k p s u f =
    along (sym (models-quotient p s u)) (at_all (λ q. satisfied (remainder q s) u) k p (λ n r a. (kept-iff r s u).1 (f n r a)))

-- an option a under a tag t, with the rule that offers it
pub record Offer (k : ℕ) (p : Program) (t : Tag) (a : SignedAtom) : Type 0 where
  pub number : ℕ
  pub options : List SignedAtom
  pub body : List Literal
  pub nafs : List Literal
  pub at : At number (defeasible t options body nafs) k p
  pub mem : Memᴰ a options

pub offer-found : (k : ℕ) (p : Program) (t : Tag) (a : SignedAtom) → T (some_of (offers t a) p) → Offer k p t a
unfolding offers
offer-found k [] t a y = absurd y
offer-found k (r ∷ p) t a y = go r (λ z. offer-found (k + 1) p t a z) (either (offers t a r) (some_of (offers t a) p) y)
  where
    later : (r : Rule) → Offer (k + 1) p t a → Offer k (r ∷ p) t a
    later r o = record { number = o.number; options = o.options; body = o.body; nafs = o.nafs; at = there o.at; mem = o.mem }

    go : (r : Rule) → (T (some_of (offers t a) p) → Offer (k + 1) p t a) → T (offers t a r) ⊎ T (some_of (offers t a) p) → Offer k (r ∷ p) t a
    go (strict h b c) ih (inl z) = absurd z
    go (strict h b c) ih (inr z) = later (strict h b c) (ih z)
    go (defeasible u h b c) ih (inr z) = later (defeasible u h b c) (ih z)
    go (defeasible u h b c) ih (inl z) =
        let found = any_found (same_signed a) h (second (same_tag t u) (some_of (same_signed a) h) z) in
        let e = same-tag-eq t u (first (same_tag t u) (some_of (same_signed a) h) z) in
        record {
          number = k;
          options = h;
          body = b;
          nafs = c;
          at = here refl (ap (λ (v : Tag). defeasible v h b c) (sym e));
          mem = Memᴰ.cast (same-signed-eq a found.0 found.2) found.1;
        }

pub offer-any : {n : ℕ} {t : Tag} {h : List SignedAtom} {b c : List Literal} {a : SignedAtom} {k : ℕ} {p : Program}
    → At n (defeasible t h b c) k p → Memᴰ a h → T (some_of (offers t a) p)
unfolding offers
offer-any {t} {h} {a} (here {q} {p} e f) m =
    left (offers t a q) (some_of (offers t a) p)
    (subst (λ (z : Rule). T (offers t a z)) (sym f)
    (both (same_tag t t) (some_of (same_signed a) h) (same-tag-refl t) (any-mem (same_signed a) m (same-signed-refl a))))
offer-any {t} {a} (there {q} {p} y) m = right (offers t a q) (some_of (offers t a) p) (offer-any y m)

-- a rule that is defeated, by its number
pub defeated-found : (k : ℕ) (p : Program) (s : LiteralSet) (n : ℕ) → T (defeated_from k p s n) → (r : Rule) × At n r k p × T (defeated_rule s r)
unfolding defeated_from
defeated-found k [] s n y = absurd y
defeated-found k (q ∷ p) s n y =
    go (λ z. defeated-found (k + 1) p s n z) (either (eqb k n && defeated_rule s q) (defeated_from (k + 1) p s n) y)
  where
    go : (T (defeated_from (k + 1) p s n) → (r : Rule) × At n r (k + 1) p × T (defeated_rule s r))
        → T (eqb k n && defeated_rule s q) ⊎ T (defeated_from (k + 1) p s n) → (r : Rule) × At n r k (q ∷ p) × T (defeated_rule s r)
    go ih (inl z) = (q, here (eqb→eq k n (first (eqb k n) (defeated_rule s q) z)) refl, second (eqb k n) (defeated_rule s q) z)
    go ih (inr z) = let w = ih z in (w.0, there w.1, w.2)

pub defeated-at : {n : ℕ} {r : Rule} {k : ℕ} {p : Program} (s : LiteralSet) → At n r k p → T (defeated_rule s r) → T (defeated_from k p s n)
unfolding defeated_from
defeated-at {n} s (here {k} {q} {p} e f) d =
    left (eqb k n && defeated_rule s q) (defeated_from (k + 1) p s n)
    (both (eqb k n) (defeated_rule s q) (subst (λ (m : ℕ). T (eqb k m)) e (eqb_refl k))
    (subst (λ (z : Rule). T (defeated_rule s z)) (sym f) d))
defeated-at {n} s (there {k} {q} {p} y) d = right (eqb k n && defeated_rule s q) (defeated_from (k + 1) p s n) (defeated-at s y d)
