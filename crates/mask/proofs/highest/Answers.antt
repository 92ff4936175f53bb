-- 63 less the leading zeros is the place of the highest set digit.
use Prim.Native.Nat.{ℕ, ◌-◌, ◌*◌, ◌%◌, ◌^◌, ◌<◌}
use native.Mathlib.Omega.{arith}
use mathlib.Core.Path.{◌≡◌, sym, ap, subst, ◌∙◌}
use lib.Count.{count_leading_zeros, leading_top}
use Rattle.mask.specs.Code.{Highest}
use Rattle.mask.proofs.Laws.Place.{one_shifted}
use Rattle.mask.proofs.Laws.Single.{pow-highest}
use Rattle.mask.proofs.highest.Goals as goal

-- one, shifted to the place of the highest set digit
shifted : (m : ℕ) → 0 < m → m < 2 ^ 64 → Highest m (1 * 2 ^ (63 - count_leading_zeros 64 m) % 2 ^ 64)
shifted m p h =
    let top = leading_top 64 m p h in
    let j = top.0 in
    let place : 63 - count_leading_zeros 64 m ≡ j = omega (arith, top.1) in
    subst (Highest m) (sym (ap (λ (i : ℕ). 1 * 2 ^ i % 2 ^ 64) place ∙ one_shifted j (omega (arith, top.1)))) (pow-highest m j top.2 top.3)

pub returns : goal.returns
returns c = shifted c.args.m c.requires c.ranges.m.fits
