-- Which half a search goes on with, as a number: 1 where a key is not above the one wanted, 0 where it is.
-- Assumes nothing.
use Prim.Native.Nat.{ℕ, ◌+◌, ◌-◌, ◌*◌, ◌/◌, ◌≤◌, ◌<◌}
use native.Mathlib.Omega.{arith}
use native.Mathlib.Nat.{one-mul, zero-mul}
use mathlib.Core.Path.{◌≡◌, refl, ap}
use mathlib.Core.Bool.{Bool, true, false, cond}
use lib.Dec.{leb}
use borrow.Author.Tests.{leb-true, leb-false}
use Rattle.literal.specs.Code.{key_room}

-- 1 or 0 times a half is no more than the half
pub weight-le : (key wanted w half : ℕ) → w ≡ cond (leb key wanted) 1 0 → w * half ≤ half
weight-le key wanted w half e = go (leb key wanted) e
  where
    go : (b : Bool) → w ≡ cond b 1 0 → w * half ≤ half
    go true q = omega (arith, ap (λ (i : ℕ). i * half) q, one-mul half)
    go false q = omega (arith, ap (λ (i : ℕ). i * half) q, zero-mul half)

-- which of the two a division gives
pub weight-of : (key wanted : ℕ) → key < key_room → wanted < key_room → (key_room + wanted - key) / key_room ≡ cond (leb key wanted) 1 0
weight-of key wanted h m = go (leb key wanted) refl
  where
    go : (b : Bool) → leb key wanted ≡ b → (key_room + wanted - key) / key_room ≡ cond b 1 0
    go true e = omega (arith, leb-true key wanted e)
    go false e = omega (arith, leb-false key wanted e)
