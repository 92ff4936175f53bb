-- Tallies: the equations of the code's steps; the positions of a mask that are counted most often are some of its positions.
-- Assumes nothing.
use Prim.Native.Nat.{ℕ, ◌<◌}
use native.Mathlib.Omega.{arith}
use mathlib.Core.Path.{◌≡◌, refl}
use mathlib.Core.Bool.{Bool, true, false, cond}
use lib.Bits.{bit_and, bit_xor}
use lib.Dec.{eqb}
use borrow.Author.Tests.{eqb-true, eqb-false}
use Rattle.mask.specs.Code.{Within}
use Rattle.mask.proofs.Laws.Part.{within-trans, and-within-left}
use Rattle.check_pick.specs.declared.Tally.{Tally}
use Rattle.check_pick.specs.Code.{tallied, refined, most_of}

-- some positions of k
abbrev pub Some : ℕ → ℕ → Type 0
Some k x = Within x k × (0 < x)

module _ (m d : ℕ) where
  by-digit : (P : ℕ → Type 0) → (bit_and m d ≡ 0 → P m) → ((bit_and m d ≡ 0 → ⊥) → P (bit_and m d)) → P (refined m d)
  unfolding refined
  by-digit P f g = go (eqb (bit_and m d) 0) refl
    where
      go : (b : Bool) → eqb (bit_and m d) 0 ≡ b → P (cond b m (bit_and m d))
      go true e = f (eqb-true (bit_and m d) 0 e)
      go false e = g (eqb-false (bit_and m d) 0 e)

  pub refined-none : bit_and m d ≡ 0 → m ≡ refined m d
  refined-none e = by-digit (λ z. m ≡ z) (λ f. refl) (λ n. absurd (n e))

  pub refined-kept : (bit_and m d ≡ 0 → ⊥) → bit_and m d ≡ refined m d
  refined-kept n = by-digit (λ z. bit_and m d ≡ z) (λ e. absurd (n e)) (λ f. refl)

  refined-some : (k : ℕ) → Some k m → Some k (refined m d)
  refined-some k p =
      by-digit (Some k) (λ e. p) (λ n. (within-trans (bit_and m d) m k (and-within-left m d) p.0, omega (arith, n)))

module _ (t : Tally) (m : ℕ) where
  -- from digit to digit
  pub most-steps : {m7 m6 m5 m4 m3 m2 m1 m0 : ℕ} → m7 ≡ refined m t.d7 → m6 ≡ refined m7 t.d6 → m5 ≡ refined m6 t.d5
      → m4 ≡ refined m5 t.d4 → m3 ≡ refined m4 t.d3 → m2 ≡ refined m3 t.d2 → m1 ≡ refined m2 t.d1 → m0 ≡ refined m1 t.d0
      → m0 ≡ most_of t m
  unfolding most_of
  most-steps a b c d e f g h = cc

  pub most-some : (k : ℕ) → Some k m → Some k (most_of t m)
  unfolding most_of
  most-some k p =
      refined-some _ t.d0 k (refined-some _ t.d1 k (refined-some _ t.d2 k (refined-some _ t.d3 k
      (refined-some _ t.d4 k (refined-some _ t.d5 k (refined-some _ t.d6 k (refined-some m t.d7 k p)))))))

  -- the code's tally, digit by digit
  pub tallied-is :
      record {
        d0 = bit_xor t.d0 m;
        d1 = bit_xor t.d1 (bit_and t.d0 m);
        d2 = bit_xor t.d2 (bit_and t.d1 (bit_and t.d0 m));
        d3 = bit_xor t.d3 (bit_and t.d2 (bit_and t.d1 (bit_and t.d0 m)));
        d4 = bit_xor t.d4 (bit_and t.d3 (bit_and t.d2 (bit_and t.d1 (bit_and t.d0 m))));
        d5 = bit_xor t.d5 (bit_and t.d4 (bit_and t.d3 (bit_and t.d2 (bit_and t.d1 (bit_and t.d0 m)))));
        d6 = bit_xor t.d6 (bit_and t.d5 (bit_and t.d4 (bit_and t.d3 (bit_and t.d2 (bit_and t.d1 (bit_and t.d0 m))))));
        d7 = bit_xor t.d7 (bit_and t.d6 (bit_and t.d5 (bit_and t.d4 (bit_and t.d3 (bit_and t.d2 (bit_and t.d1 (bit_and t.d0 m)))))));
      } ≡ tallied t m
  unfolding tallied
  tallied-is = refl
