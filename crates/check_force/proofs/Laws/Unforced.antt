-- A clause forces nothing on two bounds if it is met, if body and head have an open literal each, or if two literals are open.
-- In order: the clause at the bounds; with or without some of what is open; two parts of what is open; the cases.
-- Assumes nothing.
use Prim.Native.Nat.{ℕ, ◌-◌}
use native.Mathlib.Decide.{ℕ_discrete}
use native.Mathlib.Omega.{arith}
use mathlib.Core.Path.{◌≡◌, sym, ◌∙◌, ap, ap₂, subst}
use lib.Bits.{bit_and, bit_or, bit_xor, or_zero_l, or_zero_r}
use Rattle.mask.specs.Code.{Within, Apart}
use Rattle.mask.proofs.Laws.Rest.{rest, rest-none, none_rest, rest-within, rest-apart}
use Rattle.mask.proofs.Laws.Part.{within-trans, within-le, within-or-right, or-none, and-within-left, and-within-right, apart-sym, within-apart, xor-apart}
use Rattle.check_force.specs.Code.{Holds, Between, Quiet}
use Rattle.check_force.proofs.Laws.Quiet.{lower, upper, quiet-ends, quiet-grown, quiet-shrunk}

-- a mask that lies in another and apart from it is empty
pub nothing : (m x : ℕ) → Within m x → Apart m x → m ≡ 0
nothing m x w a = sym w ∙ a

-- a mask without its lowest position, and that position: two parts of it, where the first is not empty
module _ (m w : ℕ) (e : w ≡ bit_and m (m - 1)) (n : w ≡ 0 → ⊥) where
  upper-part : Within w m
  upper-part = subst (λ (z : ℕ). Within z m) (sym e) (and-within-left m (m - 1))

  lowest-some : rest m w ≡ 0 → ⊥
  lowest-some z =
      n (omega (arith, within-le m w (rest-none m w z), within-le w (m - 1) (subst (λ (y : ℕ). Within y (m - 1)) (sym e) (and-within-right m (m - 1)))))

module _ (body head must may : ℕ) where
  -- the body's literals that are not yet present, and the head's that may be
  abbrev needed : ℕ
  needed = rest body must

  abbrev left : ℕ
  left = bit_and head may

  -- the body may not be present, or a head literal is
  abbrev met : ℕ
  met = bit_or (rest body may) (bit_and head must)

  met_holds : (met ≡ 0 → ⊥) → (x : ℕ) → Between must may x → Holds body head x
  met_holds n x b p a =
      n (ap₂ bit_or (none_rest body may (within-trans body x may p b.below))
      (apart-sym must head (within-apart must x head b.above (apart-sym head x a))))

  -- some of what is left is present, or some of what is needed is not
  grown-holds : (m : ℕ) → Within m left → (m ≡ 0 → ⊥) → Holds body head (bit_or must m)
  grown-holds m w n p a =
      n (nothing m (bit_or must m) (within-or-right must m)
      (within-apart m head (bit_or must m) (within-trans m left head w (and-within-left head may)) a))

  shrunk-holds : (m : ℕ) → Within m may → Within m needed → (m ≡ 0 → ⊥) → Holds body head (bit_xor may m)
  shrunk-holds m i w n p a =
      n (nothing m (bit_xor may m) (within-trans m body (bit_xor may m) (within-trans m needed body w (rest-within body must)) p)
      (apart-sym (bit_xor may m) m (xor-apart may m i)))

  module _ (inside : Within must may) where
    -- both have an open literal
    pub both-open : (needed ≡ 0 → ⊥) → (left ≡ 0 → ⊥) → Quiet (Holds body head) must may
    both-open n l = quiet-ends must may inside (λ p a. n (none_rest body must p)) (λ p a. l a)

    -- two literals are open: u and w are parts of what is open
    module _ (u w : ℕ) (parts : Apart u w) (u-some : u ≡ 0 → ⊥) (w-some : w ≡ 0 → ⊥) where
      heads-open : Within u left → Within w left → Quiet (Holds body head) must may
      heads-open a b =
          let within : Within left may = and-within-right head may in
          quiet-grown must may inside u w (within-trans u left may a within) (within-trans w left may b within) parts
          (grown-holds u a u-some) (grown-holds w b w-some) (λ p z. u-some (omega (arith, within-le u left a, z)))

      bodies-open : Within body may → Within u needed → Within w needed → Quiet (Holds body head) must may
      bodies-open i a b =
          let within : Within needed may = within-trans needed body may (rest-within body must) i in
          let within-u : Within u may = within-trans u needed may a within in
          let within-w : Within w may = within-trans w needed may b within in
          quiet-shrunk must may inside u w within-u within-w parts
          (within-apart u needed must a (rest-apart body must)) (within-apart w needed must b (rest-apart body must))
          (λ p z. u-some (omega (arith, within-le u needed a, none_rest body must p))) (shrunk-holds u within-u a u-some) (shrunk-holds w within-w b w-some)

    -- the clause is met, or w, what is open besides the lowest open literal, is some
    module _ (w : ℕ) (e : w ≡ bit_and (bit_or needed left) (bit_or needed left - 1)) where
      two-open : met ≡ 0 → (w ≡ 0 → ⊥) → Dec (needed ≡ 0) → Dec (left ≡ 0) → Quiet (Holds body head) must may
      two-open k n (no f) (no g) = both-open f g
      two-open k n (yes f) g =
          let last : bit_or needed left ≡ left = ap (λ (z : ℕ). bit_or z left) f ∙ or_zero_l left in
          heads-open (rest (bit_or needed left) w) w (rest-apart (bit_or needed left) w) (lowest-some (bit_or needed left) w e n) n
          (subst (Within (rest (bit_or needed left) w)) last (rest-within (bit_or needed left) w)) (subst (Within w) last (upper-part (bit_or needed left) w e n))
      two-open k n (no f) (yes g) =
          let last : bit_or needed left ≡ needed = ap (bit_or needed) g ∙ or_zero_r needed in
          bodies-open (rest (bit_or needed left) w) w (rest-apart (bit_or needed left) w) (lowest-some (bit_or needed left) w e n) n
          (rest-none body may (or-none (rest body may) (bit_and head must) k).0)
          (subst (Within (rest (bit_or needed left) w)) last (rest-within (bit_or needed left) w)) (subst (Within w) last (upper-part (bit_or needed left) w e n))

      pub met-or-two : (bit_or met w ≡ 0 → ⊥) → Quiet (Holds body head) must may
      met-or-two n = go (ℕ_discrete met 0)
        where
          go : Dec (met ≡ 0) → Quiet (Holds body head) must may
          go (yes k) = two-open k (λ z. n (ap₂ bit_or k z)) (ℕ_discrete needed 0) (ℕ_discrete left 0)
          go (no f) = quiet-ends must may inside (met_holds f must (lower must may inside)) (met_holds f may (upper must may inside))
