-- Sums of counts, made in their place: the first w are sums already, the others are counts yet.
-- In order: one count more; sums of few are low; a loop that sums: its start, a count more.
-- Assumes nothing.
use Prim.Native.Nat.{ℕ, zero, suc, ◌+◌, ◌*◌, ◌≤◌, ◌<◌}
use native.Mathlib.Omega.{arith}
use mathlib.Core.Path.{◌≡◌, refl, ap, ◌∙◌}
use mathlib.Core.Bool.{Bool, true, false}
use mathlib.Core.List.{List}
use lib.Dec.{eqb}
use lib.ListN.{length, get_or, set, length-set}
use lib.Seq.{get_or-set_same, get_or-set_other}
use borrow.Author.Tests.{eqb-true, eqb-false}
use Rattle.aspif_number.specs.Code.{Few, sum_of}

sum-none : (counts : List ℕ) → sum_of counts 0 ≡ 0
unfolding sum_of
sum-none counts = refl

-- one count more
sum-next : (counts : List ℕ) (w : ℕ) → sum_of counts (w + 1) ≡ sum_of counts w + get_or counts w 0
unfolding sum_of
sum-next counts w = let e : w + 1 ≡ suc w = omega arith in ap (sum_of counts) e

-- no sum is high
sum_low : (counts : List ℕ) → Few counts → (w : ℕ) → sum_of counts w ≤ 64 * w
unfolding sum_of
sum_low counts f zero = omega arith
sum_low counts f (suc w) = omega (arith, sum_low counts f w, f.low w)

-- where the loop is: d became e
pub record Summing (d e : List ℕ) (sum w : ℕ) : Type 0 where
  pub same : length e ≡ length d
  pub within : w ≤ length d
  pub total : sum ≡ sum_of d w
  pub done : (v : ℕ) → v < w → get_or e v 0 ≡ sum_of d v
  pub left : (v : ℕ) → w ≤ v → get_or e v 0 ≡ get_or d v 0

pub summing_start : (d : List ℕ) → Summing d d 0 0
summing_start d = record { same = refl; within = omega arith; total = omega (arith, sum-none d); done = λ v h. absurd (omega arith); left = λ v h. refl }

module _ {d e : List ℕ} {sum w : ℕ} (s : Summing d e sum w) where
  pub summing-next : w < length d → Summing d (set e w sum) (sum + get_or e w 0) (w + 1)
  summing-next h =
      record {
        same = length-set e w sum ∙ s.same;
        within = omega arith;
        total = omega (arith, s.total, s.left w (omega arith), sum-next d w);
        done = λ v g. at_place v g (eqb v w) refl;
        left = λ v g. get_or-set_other e w v sum 0 (λ p. omega (arith, p)) ∙ s.left v (omega arith);
      }
    where
      at_place : (v : ℕ) → v < w + 1 → (b : Bool) → eqb v w ≡ b → get_or (set e w sum) v 0 ≡ sum_of d v
      at_place v g true p = rw (eqb-true v w p) (get_or-set_same e w sum 0 (omega (arith, s.same)) ∙ s.total)
      at_place v g false p =
          let n = eqb-false v w p in
          let below : v < w = omega (arith, n) in
          get_or-set_other e w v sum 0 n ∙ s.done v below

  -- the next sum fits
  pub summing-low : Few d → w < length d → sum + get_or e w 0 ≤ 411136
  summing-low f h = omega (arith, s.total, s.left w (omega arith), sum_low d f w, f.low w, f.short)
