-- When a property forces nothing on two bounds: masks between the bounds that have it, and that share no more than must and
-- leave out no less than may.
-- In order: the bounds as masks; both have it; one has it, and so has the other with, or without, either of two masks.
-- Assumes nothing.
use Prim.Native.Nat.{ℕ}
use mathlib.Core.Path.{sym}
use mathlib.Core.Bool.{not}
use mathlib.Core.Logic.{⊎_elim}
use lib.Bits.{bit_or, bit_xor}
use lib.Dec.{T}
use Rattle.semantics.proofs.Laws.Tests.{both, either, decide, refuted, along}
use Rattle.mask.specs.Code.{has, Within, Apart}
use Rattle.mask.proofs.Laws.Member.{has-or, apart-has}
use Rattle.mask.proofs.Laws.Part.{within-refl, within-or-left, or-within, has-without, xor-within, within-xor}
use Rattle.check_force.specs.Code.{Between, Quiet}

module _ (must may : ℕ) (inside : Within must may) where
  -- each bound lies between them
  pub lower : Between must may must
  lower = record { above = within-refl must; below = inside }

  pub upper : Between must may may
  upper = record { above = inside; below = within-refl may }

module _ {P : ℕ → Type 0} (must may : ℕ) (inside : Within must may) where
  -- both bounds have P
  pub quiet-ends : P must → P may → Quiet P must may
  quiet-ends p q = record { present = λ i f. f must (lower must may inside) p; absent = λ i f. f may (upper must may inside) q }

  module _ (u w : ℕ) (u-within : Within u may) (w-within : Within w may) (parts : Apart u w) where
    -- the upper bound has P, and so has the lower with u or with w, which share nothing
    pub quiet-grown : P (bit_or must u) → P (bit_or must w) → P may → Quiet P must may
    quiet-grown p q r = record { present = held; absent = λ i f. f may (upper must may inside) r }
      where
        grown : (m : ℕ) → Within m may → Between must may (bit_or must m)
        grown m h = record { above = within-or-left must m; below = or-within must m may inside h }

        held : (i : ℕ) → ((x : ℕ) → Between must may x → P x → T (has x i)) → T (has must i)
        held i f =
            ⊎_elim (λ t. t)
            (λ s. ⊎_elim (λ t. t) (λ t. absurd (apart-has u w parts i s t))
            (either (has must i) (has w i) (along (has-or must w i) (f (bit_or must w) (grown w w-within) q))))
            (either (has must i) (has u i) (along (has-or must u i) (f (bit_or must u) (grown u u-within) p)))

    -- the lower bound has P, and so has the upper without u or without w, which share nothing
    pub quiet-shrunk : Apart u must → Apart w must → P must → P (bit_xor may u) → P (bit_xor may w) → Quiet P must may
    quiet-shrunk a b r p q = record { present = λ i f. f must (lower must may inside) r; absent = left }
      where
        shrunk : (m : ℕ) → Within m may → Apart m must → Between must may (bit_xor may m)
        shrunk m h d = record { above = within-xor must may m h inside d; below = xor-within may m h }

        lacks : (m i : ℕ) → Within m may → T (has may i) → (T (has m i) → ⊥) → T (has (bit_xor may m) i)
        lacks m i h t n = along (sym (has-without may m h i)) (both (has may i) (not (has m i)) t (refuted (has m i) n))

        left : (i : ℕ) → ((x : ℕ) → Between must may x → P x → T (has x i) → ⊥) → T (has may i) → ⊥
        left i f t =
            ⊎_elim
            (λ s. f (bit_xor may w) (shrunk w w-within b) q (lacks w i w-within t (λ z. apart-has u w parts i s z)))
            (λ n. f (bit_xor may u) (shrunk u u-within a) p (lacks u i u-within t n))
            (decide (has u i))
