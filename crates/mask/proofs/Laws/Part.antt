-- Parts of masks: the order of parts, unions, and a mask without a part of it (`a ^ b`, where b is a part of a).
-- In order: the order; unions; masks apart; a mask without a part. As numbers: a part is at most the whole, and a mask
-- is the sum of a part and the rest.
-- Assumes nothing.
use Prim.Native.Nat.{ℕ, ◌+◌, ◌≤◌}
use native.Mathlib.Decide.{ℕ_discrete}
use native.Mathlib.Omega.{arith}
use mathlib.Core.Path.{◌≡◌, refl, sym, ap, subst, ◌∙◌}
use mathlib.Core.Bool.{Bool, true, false, not, ◌&&◌, ◌||◌, or_assoc as either-assoc}
use mathlib.Core.Logic.{◌⊎◌, inl, inr, ⊎_elim}
use lib.Bits.{bit_and, bit_or, bit_xor, and_self, and_comm, and_le_r, xor_add_and}
use lib.Dec.{T}
use Rattle.semantics.proofs.Laws.Tests.{both, first, second, left, right, either, fails, refuted, along}
use Rattle.mask.specs.Code.{has, Within, Apart}
use Rattle.mask.proofs.Laws.Member.{has-and, has-or, has-xor, either-one, has-ext, within_has, has_within, apart-has, has-apart}

pub within-refl : (a : ℕ) → Within a a
within-refl = and_self

pub within-trans : (a b c : ℕ) → Within a b → Within b c → Within a c
within-trans a b c p q = has_within a c (λ i t. within_has b c q i (within_has a b p i t))

pub within-antisym : (a b : ℕ) → Within a b → Within b a → a ≡ b
within-antisym a b p q = sym p ∙ and_comm a b ∙ q

pub within-le : (a b : ℕ) → Within a b → a ≤ b
within-le a b p = subst (λ (x : ℕ). x ≤ b) p (and_le_r a b)

-- a union holds both masks, and lies in whatever holds both
pub within-or-left : (a b : ℕ) → Within a (bit_or a b)
within-or-left a b = has_within a (bit_or a b) (λ i t. along (sym (has-or a b i)) (left (has a i) (has b i) t))

pub within-or-right : (a b : ℕ) → Within b (bit_or a b)
within-or-right a b = has_within b (bit_or a b) (λ i t. along (sym (has-or a b i)) (right (has a i) (has b i) t))

pub or-within : (a b c : ℕ) → Within a c → Within b c → Within (bit_or a b) c
or-within a b c p q =
    has_within (bit_or a b) c
    (λ i t. ⊎_elim (within_has a c p i) (within_has b c q i) (either (has a i) (has b i) (along (has-or a b i) t)))

pub or_assoc : (a b c : ℕ) → bit_or (bit_or a b) c ≡ bit_or a (bit_or b c)
or_assoc a b c =
    has-ext (bit_or (bit_or a b) c) (bit_or a (bit_or b c))
    (λ i. has-or (bit_or a b) c i ∙ ap (λ (t : Bool). t || has c i) (has-or a b i) ∙ either-assoc (has a i) (has b i) (has c i)
    ∙ ap (λ (t : Bool). has a i || t) (sym (has-or b c i)) ∙ sym (has-or a (bit_or b c) i))

-- a union is empty where both are
pub or-none : (a b : ℕ) → bit_or a b ≡ 0 → (a ≡ 0) × (b ≡ 0)
or-none a b e = (omega (arith, within-le a (bit_or a b) (within-or-left a b)), omega (arith, within-le b (bit_or a b) (within-or-right a b)))

-- an intersection lies in both masks
pub and-within-left : (a b : ℕ) → Within (bit_and a b) a
and-within-left a b = has_within (bit_and a b) a (λ i t. first (has a i) (has b i) (along (has-and a b i) t))

pub and-within-right : (a b : ℕ) → Within (bit_and a b) b
and-within-right a b = has_within (bit_and a b) b (λ i t. second (has a i) (has b i) (along (has-and a b i) t))

-- masks apart
pub apart-sym : (a b : ℕ) → Apart a b → Apart b a
apart-sym a b e = and_comm b a ∙ e

pub within-apart : (a b c : ℕ) → Within a b → Apart b c → Apart a c
within-apart a b c p q = has-apart a c (λ i s t. apart-has b c q i (within_has a b p i s) t)

pub or_apart : (a b c : ℕ) → Apart a c → Apart b c → Apart (bit_or a b) c
or_apart a b c p q =
    has-apart (bit_or a b) c
    (λ i s t. ⊎_elim (λ u. apart-has a c p i u t) (λ u. apart-has b c q i u t) (either (has a i) (has b i) (along (has-or a b i) s)))

-- masks are apart or they are not
pub apart-or-not : (a b : ℕ) → Apart a b ⊎ (Apart a b → ⊥)
apart-or-not a b = go (ℕ_discrete (bit_and a b) 0)
  where
    go : Dec (bit_and a b ≡ 0) → Apart a b ⊎ (Apart a b → ⊥)
    go (yes e) = inl e
    go (no f) = inr f

-- what a mask has without a part of it
lacks : (x y : Bool) → (T y → T x) → either-one x y ≡ (x && not y)
lacks true y h = refl
lacks false true h = absurd (h tt)
lacks false false h = refl

pub has-without : (a b : ℕ) → Within b a → (i : ℕ) → has (bit_xor a b) i ≡ (has a i && not (has b i))
has-without a b p i = has-xor a b i ∙ lacks (has a i) (has b i) (within_has b a p i)

pub xor-within : (a b : ℕ) → Within b a → Within (bit_xor a b) a
xor-within a b p = has_within (bit_xor a b) a (λ i t. first (has a i) (not (has b i)) (along (has-without a b p i) t))

pub xor-apart : (a b : ℕ) → Within b a → Apart (bit_xor a b) b
xor-apart a b p =
    has-apart (bit_xor a b) b (λ i s t. fails (has b i) (second (has a i) (not (has b i)) (along (has-without a b p i) s)) t)

-- a part that is apart from b is a part of the mask without b
pub within-xor : (x a b : ℕ) → Within b a → Within x a → Apart b x → Within x (bit_xor a b)
within-xor x a b p q d =
    has_within x (bit_xor a b)
    (λ i t. along (sym (has-without a b p i)) (both (has a i) (not (has b i)) (within_has x a q i t) (refuted (has b i) (λ s. apart-has b x d i s t))))

-- as numbers, a mask is a part and the rest
pub xor-sum : (a b : ℕ) → Within b a → bit_xor a b + b ≡ a
xor-sum a b p = let e : bit_and a b ≡ b = and_comm a b ∙ p in omega (arith, xor_add_and a b)
