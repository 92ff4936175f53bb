-- An open position of two bounds: a mask between them is without it or with it, and either way less is open. Where it is the
-- highest, those without it come first.
-- Assumes nothing.
use Prim.Native.Nat.{ℕ, ◌≤◌, ◌<◌}
use native.Mathlib.Omega.{arith}
use mathlib.Core.Path.{◌≡◌}
use mathlib.Core.Logic.{◌⊎◌, inl, inr, ⊎_elim}
use lib.Bits.{bit_or, bit_xor, or_disjoint}
use Rattle.mask.specs.Code.{Within, Apart, Position, Highest}
use Rattle.mask.proofs.Laws.Part.{within-trans, within-le, within-or-left, or-within, apart-sym, within-apart, xor-within, xor-apart, within-xor, xor-sum, apart-or-not}
use Rattle.mask.proofs.Laws.Count.{ones-mono, ones-strict}
use Rattle.check_force.specs.Code.{Between}
use Rattle.check_force.proofs.Laws.Narrow.{open-count}

-- bounds that differ leave a position open
pub open-some : (m y : ℕ) → Within m y → (m ≡ y → ⊥) → 0 < bit_xor y m
open-some m y w n = omega (arith, xor-sum y m w)

-- an open position b of the bounds m and y
module _ (m y b : ℕ) (w : Within m y) (h : Position (bit_xor y m) b) where
  pub open-within : Within b y
  open-within = within-trans b (bit_xor y m) y h.within (xor-within y m w)

  pub open-apart : Apart m b
  open-apart = apart-sym b m (within-apart b (bit_xor y m) m h.within (xor-apart y m w))

  -- without it and with it, the bounds do not cross
  pub tries-inside : Within m (bit_xor y b) × Within (bit_or m b) y
  tries-inside = (within-xor m y b open-within w (apart-sym m b open-apart), or-within m b y w open-within)

  -- and fewer positions are open
  pub tries-less : (open-count m (bit_xor y b) < open-count m y) × (open-count (bit_or m b) y < open-count m y)
  tries-less = (
    omega (
      arith,
      ones-strict (bit_xor y b) y (xor-within y b open-within) (λ e. omega (arith, xor-sum y b open-within, h.some)),
      ones-mono m (bit_xor y b) tries-inside.0,
    ),
    omega (
      arith,
      ones-strict m (bit_or m b) (within-or-left m b) (λ e. omega (arith, or_disjoint m b open-apart, h.some)),
      ones-mono (bit_or m b) y tries-inside.1,
    ),
  )

  -- a mask between the bounds is without it or with it
  pub absent-or-present : (x : ℕ) → Between m y x → Between m (bit_xor y b) x ⊎ Between (bit_or m b) y x
  absent-or-present x p =
      ⊎_elim (λ a. inl (record { above = p.above; below = within-xor x y b open-within p.below a }))
      (λ n. inr (record { above = or-within m b x p.above (h.single.whole x n); below = p.below })) (apart-or-not b x)

-- the highest open position: a mask without it comes before a mask with it
pub absent-before : (m y b : ℕ) → Within m y → Highest (bit_xor y m) b → (x z : ℕ) → Between m (bit_xor y b) x → Between (bit_or m b) y z → x ≤ z
absent-before m y b w h x z p q =
    omega (
      arith,
      within-le x (bit_xor y b) p.below,
      within-le (bit_or m b) z q.above,
      or_disjoint m b (open-apart m y b w h.position),
      xor-sum y b (open-within m y b w h.position),
      xor-sum y m w,
      h.above,
    )
