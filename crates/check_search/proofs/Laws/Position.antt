-- The positions of literals in a list without repeats: a literal is in what a mask picks exactly if its position is in the mask.
-- Not here: some literals, as a union of positions (`Union`).
-- Assumes nothing.
use Prim.Native.Nat.{ℕ, ◌^◌}
use native.Mathlib.Omega.{arith}
use mathlib.Core.Path.{◌≡◌, refl, sym, subst}
use mathlib.Core.Bool.{Bool, true, false, cond, not}
use mathlib.Core.List.{List, [], ◌∷◌}
use mathlib.Core.Logic.{◌⊎◌, inl, inr, ⊎_elim}
use lib.Dec.{T}
use lib.ListN.{length}
use Rattle.literal.specs.declared.Literal.{Literal}
use Rattle.semantics.specs.Set.{same_literal, set_of}
use Rattle.semantics.proofs.Laws.Tests.{first, second, left, right, either, fails, decide, along}
use Rattle.semantics.proofs.Laws.Set.{same-literal-eq}
use Rattle.semantics.proofs.Laws.Part.{part-subset}
use Rattle.mask.specs.Code.{has, Within, Apart}
use Rattle.mask.proofs.Laws.Place.{pow-within, pow_apart}
use Rattle.check_force.specs.Code.{mask_of}
use Rattle.check_force.proofs.Laws.Build.{distinct, picked, mask-some, mask-none}
use Rattle.check_search.proofs.Laws.Picked.{picked-part}

-- a literal is in a list and its mask in x, or neither
abbrev Sided : ℕ → List Literal → Literal → ℕ → Type 0
Sided x s l k = (T (set_of s l) × Within k x) ⊎ ((T (set_of s l) → ⊥) × Apart k x)

module _ (x : ℕ) (ls : List Literal) (l m : Literal) (n : T (not (set_of ls m))) where
  -- the list's first literal is this one: it stands nowhere behind
  first-sided : (b : Bool) → has x (length ls) ≡ b → T (same_literal l m) → Sided x (cond b (m ∷ picked x ls) (picked x ls)) l (2 ^ length ls)
  first-sided true e s = inl (left (same_literal l m) (set_of (picked x ls) l) s, pow-within (length ls) x (along (sym e) tt))
  first-sided false e s =
      inr (
        λ t. fails (set_of ls m) n (subst (λ (z : Literal). T (set_of ls z)) (same-literal-eq l m s) (part-subset (picked-part x ls) l t)),
        pow_apart (length ls) x (λ t. along e t),
      )

  -- it is another
  rest-sided : (b : Bool) → (T (same_literal l m) → ⊥) → (k : ℕ) → Sided x (picked x ls) l k → Sided x (cond b (m ∷ picked x ls) (picked x ls)) l k
  rest-sided true f k (inl p) = inl (right (same_literal l m) (set_of (picked x ls) l) p.0, p.1)
  rest-sided true f k (inr p) = inr (λ t. ⊎_elim f p.0 (either (same_literal l m) (set_of (picked x ls) l) t), p.1)
  rest-sided false f k p = p

sided : (x : ℕ) (ls : List Literal) (l : Literal) → T (distinct ls) → T (set_of ls l) → Sided x (picked x ls) l (mask_of ls l)
unfolding distinct picked mask_of
sided x [] l d t = absurd t
sided x (m ∷ ls) l d t = go (same_literal l m) refl (λ u. sided x ls l (second (not (set_of ls m)) (distinct ls) d) u)
  where
    n : T (not (set_of ls m))
    n = first (not (set_of ls m)) (distinct ls) d

    go : (a : Bool) → same_literal l m ≡ a → (T (set_of ls l) → Sided x (picked x ls) l (mask_of ls l))
        → Sided x (cond (has x (length ls)) (m ∷ picked x ls) (picked x ls)) l (cond a (2 ^ length ls) (mask_of ls l))
    go true e ih = first-sided x ls l m n (has x (length ls)) refl (along (sym e) tt)
    go false e ih =
        rest-sided x ls l m n (has x (length ls)) (along e) (mask_of ls l)
        (ih (⊎_elim (λ s. absurd (along e s)) (λ u. u) (either (same_literal l m) (set_of ls l) t)))

module _ (x : ℕ) (ls : List Literal) (d : T (distinct ls)) where
  crossed : (l : Literal) → T (set_of ls l) → Within (mask_of ls l) x → Apart (mask_of ls l) x → ⊥
  crossed l t w a = omega (arith, mask-some ls l t)

  -- a literal that is picked has its position in the mask, and one that is not has not
  pub present-within : (l : Literal) → T (set_of (picked x ls) l) → Within (mask_of ls l) x
  present-within l t = ⊎_elim (λ p. p.1) (λ p. absurd (p.0 t)) (sided x ls l d (part-subset (picked-part x ls) l t))

  pub present-meets : (l : Literal) → T (set_of (picked x ls) l) → Apart (mask_of ls l) x → ⊥
  present-meets l t = crossed l (part-subset (picked-part x ls) l t) (present-within l t)

  pub within-present : (l : Literal) → T (set_of ls l) → Within (mask_of ls l) x → T (set_of (picked x ls) l)
  within-present l t w = ⊎_elim (λ p. p.0) (λ p. absurd (crossed l t w p.1)) (sided x ls l d t)

  pub absent-apart : (l : Literal) → (T (set_of (picked x ls) l) → ⊥) → Apart (mask_of ls l) x
  absent-apart l n =
      ⊎_elim (λ t. ⊎_elim (λ p. absurd (n p.0)) (λ p. p.1) (sided x ls l d t)) (λ f. subst (λ (k : ℕ). Apart k x) (sym (mask-none ls l f)) refl)
      (decide (set_of ls l))
