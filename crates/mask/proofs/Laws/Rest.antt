-- What is left of a mask without another.
-- Assumes nothing.
use Prim.Native.Nat.{ℕ}
use native.Mathlib.Omega.{arith}
use mathlib.Core.Path.{◌≡◌, sym, ap, ◌∙◌}
use mathlib.Core.Bool.{not, ◌&&◌}
use mathlib.Core.Logic.{⊎_elim}
use lib.Bits.{bit_and, bit_xor, xor_self}
use lib.Dec.{T}
use Rattle.semantics.proofs.Laws.Tests.{decide, both, first, second, fails, refuted, along}
use Rattle.mask.specs.Code.{has, Within, Apart}
use Rattle.mask.proofs.Laws.Member.{has-and, within_has, has_within, apart-has, has-apart}
use Rattle.mask.proofs.Laws.Part.{and-within-left, and-within-right, xor-within, xor-sum, has-without}

-- the positions of a that are not in b
abbrev pub rest : ℕ → ℕ → ℕ
rest a b = bit_xor a (bit_and a b)

module _ (a b : ℕ) where
  has_rest : (i : ℕ) → has (rest a b) i ≡ (has a i && not (has (bit_and a b) i))
  has_rest = has-without a (bit_and a b) (and-within-left a b)

  -- nothing is left of a part, and of nothing else
  pub rest-none : rest a b ≡ 0 → Within a b
  rest-none e = omega (arith, xor-sum a (bit_and a b) (and-within-left a b))

  pub none_rest : Within a b → rest a b ≡ 0
  none_rest w = ap (bit_xor a) w ∙ xor_self a

  pub rest-within : Within (rest a b) a
  rest-within = xor-within a (bit_and a b) (and-within-left a b)

  pub rest-apart : Apart (rest a b) b
  rest-apart =
      has-apart (rest a b) b
      (λ i s t. let u = along (has_rest i) s in
      fails (has (bit_and a b) i) (second (has a i) (not (has (bit_and a b) i)) u)
      (along (sym (has-and a b i)) (both (has a i) (has b i) (first (has a i) (not (has (bit_and a b) i)) u) t)))

  -- a mask lies in what holds the other and what is left
  pub within-rest : (x : ℕ) → Within b x → Within (rest a b) x → Within a x
  within-rest x p q =
      has_within a x (λ i t. ⊎_elim (λ m. within_has b x p i m) (λ n. within_has (rest a b) x q i (lacks i t n)) (decide (has b i)))
    where
      lacks : (i : ℕ) → T (has a i) → (T (has b i) → ⊥) → T (has (rest a b) i)
      lacks i t n =
          along (sym (has_rest i))
          (both (has a i) (not (has (bit_and a b) i)) t (refuted (has (bit_and a b) i) (λ u. n (within_has (bit_and a b) b (and-within-right a b) i u))))

  -- where a mask c lies in b, it is apart from a if it is apart from what a and b share
  pub apart_by : (c : ℕ) → Within c b → Apart (bit_and a b) c → Apart a c
  apart_by c p q =
      has-apart a c
      (λ i s t. apart-has (bit_and a b) c q i (along (sym (has-and a b i)) (both (has a i) (has b i) s (within_has c b p i t))) t)
