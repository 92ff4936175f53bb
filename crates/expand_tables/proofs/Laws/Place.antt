-- Laws of places: an option has one, and a place has one option.
-- Assumes nothing.
use Prim.Native.Nat.{ℕ, ◌+◌, ◌*◌, ◌/◌, ◌%◌}
use native.Mathlib.Omega.{arith}
use mathlib.Core.Path.{◌≡◌, sym, ◌∙◌, ap, ap₂}
use mathlib.Core.Bool.{Bool, true, false, cond}
use lib.Dec.{eqb, eqb→eq}
use borrow.Author.Tests.{eq-eqb, ne_eqb}
use Rattle.literal.specs.declared.Atom.{Atom}
use Rattle.literal.specs.declared.SignedAtom.{SignedAtom}
use Rattle.literal.specs.declared.SignedAtom.TheVariants.{Positive, Negative}
use Rattle.semantics.specs.Set.{same_signed}
use Rattle.semantics.proofs.Laws.Tests.{same_test, along}
use Rattle.semantics.proofs.Laws.Set.{same-signed-eq, same-signed-refl}
use Rattle.expand_tables.specs.Code.{place_of, option_of}

-- the option of an option's place
pub option-place : (a : SignedAtom) → option_of (place_of a) ≡ a
unfolding place_of option_of
option-place (Positive a) =
    let even : eqb (2 * a.0 % 2) 0 ≡ true = eq-eqb (2 * a.0 % 2) 0 (omega arith) in
    let half : 2 * a.0 / 2 ≡ a.0 = omega arith in
    ap₂ (λ (t : Bool) (n : ℕ). cond t (Positive (record { 0 = n })) (Negative (record { 0 = n }))) even half
option-place (Negative a) =
    let odd : eqb ((2 * a.0 + 1) % 2) 0 ≡ false = ne_eqb ((2 * a.0 + 1) % 2) 0 (λ e. omega arith) in
    let half : (2 * a.0 + 1) / 2 ≡ a.0 = omega arith in
    ap₂ (λ (t : Bool) (n : ℕ). cond t (Positive (record { 0 = n })) (Negative (record { 0 = n }))) odd half

-- so the same place is the same option
pub place-injective : (a b : SignedAtom) → place_of a ≡ place_of b → a ≡ b
place-injective a b e = sym (option-place a) ∙ ap option_of e ∙ option-place b

pub place_same : (a b : SignedAtom) → eqb (place_of a) (place_of b) ≡ same_signed a b
place_same a b =
    same_test (eqb (place_of a) (place_of b)) (same_signed a b)
    (λ t. rw (place-injective a b (eqb→eq (place_of a) (place_of b) t)) (same-signed-refl b))
    (λ t. along (sym (eq-eqb (place_of a) (place_of b) (ap place_of (same-signed-eq a b t)))) tt)

-- the option of a place, by the remainder
pub option-even : (k : ℕ) → k % 2 ≡ 0 → Positive (record { 0 = k / 2 }) ≡ option_of k
unfolding option_of
option-even k e = ap (λ (t : Bool). cond t (Positive (record { 0 = k / 2 })) (Negative (record { 0 = k / 2 }))) (sym (eq-eqb (k % 2) 0 e))

pub option-odd : (k : ℕ) → (k % 2 ≡ 0 → ⊥) → Negative (record { 0 = k / 2 }) ≡ option_of k
unfolding option_of
option-odd k e = ap (λ (t : Bool). cond t (Positive (record { 0 = k / 2 })) (Negative (record { 0 = k / 2 }))) (sym (ne_eqb (k % 2) 0 e))

-- the place of an option, by its sign
pub place-positive : (a : SignedAtom) (p : Atom) → a ≡ Positive p → 2 * p.0 ≡ place_of a
unfolding place_of
place-positive a p e = sym (ap place_of e)

pub place-negative : (a : SignedAtom) (p : Atom) → a ≡ Negative p → 2 * p.0 + 1 ≡ place_of a
unfolding place_of
place-negative a p e = sym (ap place_of e)
