-- Laws of the search for a clash: one literal further; what it answers of a set that was read.
-- In order: the opposite of a literal; one step; the answer. Assumes nothing.
use Prim.Native.Nat.{ℕ, zero, suc, ◌+◌, ◌*◌, ◌-◌, ◌≤◌, ◌<◌}
use native.Mathlib.Omega.{arith}
use mathlib.Core.Path.{◌≡◌, refl, ◌∙◌, ap, ap₂}
use mathlib.Core.Bool.{true, false}
use mathlib.Core.List.{List}
use lib.ListN.{get_or, drop}
use borrow.Author.Tests.{le-leb, lt-leb}
use Rattle.buffer.specs.Bytes.{number_at}
use Rattle.literal.specs.declared.Literal.TheVariants.{Signed}
use Rattle.literal.specs.Literal.{opposite, signed_atom}
use Rattle.std.specs.Prelude.{Some, None}
use Rattle.set.specs.Code.{key_set}
use Rattle.check_clash.specs.Code.{opposed_in, clash_at}

module _ (s : List ℕ) (n : ℕ) (t : List ℕ) where
  -- a mark has no opposite
  pub opposed-mark : 1 < get_or t 0 0 → opposed_in s n t ≡ false
  unfolding opposed_in
  opposed-mark h = rw (lt-leb (get_or t 0 0) 1 h)

  -- the opposite of an atom has the other kind
  pub opposed-signed : get_or t 0 0 ≤ 1 → opposed_in s n t ≡ key_set s n (Signed (opposite (signed_atom (get_or t 0 0) (number_at t 3))))
  unfolding opposed_in
  opposed-signed h = rw (le-leb (get_or t 0 0) 1 h)

module _ (s : List ℕ) (n k at : ℕ) where
  -- the first literal clashes
  pub clash-here : (m : ℕ) → 0 < m → opposed_in s n (drop at s) ≡ true → clash_at s n k at m ≡ Some k
  unfolding clash_at
  clash-here zero h e = absurd (omega arith)
  clash-here (suc m) h e = rw e

  -- it does not
  pub clash-next : (m : ℕ) → 0 < m → opposed_in s n (drop at s) ≡ false → clash_at s n k at m ≡ clash_at s n (k + 1) (at + 5) (m - 1)
  unfolding clash_at
  clash-next zero h e = absurd (omega arith)
  clash-next (suc m) h e = rw e (ap (clash_at s n (k + 1) (at + 5)) back)
    where
      back : m ≡ suc m - 1
      back = omega arith

  -- no literal is left
  pub clash-end : (m : ℕ) → m ≤ 0 → clash_at s n k at m ≡ None
  unfolding clash_at
  clash-end zero h = refl
  clash-end (suc m) h = absurd (omega arith)

-- literal number i of n, from 0
module _ (s : List ℕ) (n i : ℕ) (l : i < n) where
  pub clash-step : opposed_in s n (drop (4 + 5 * i) s) ≡ false → clash_at s n (1 + i) (4 + 5 * i) (n - i) ≡ clash_at s n (1 + (i + 1)) (4 + 5 * (i + 1)) (n - (i + 1))
  clash-step e =
      clash-next s n (1 + i) (4 + 5 * i) (n - i) (omega arith) e
      ∙ ap₂ (clash_at s n (1 + i + 1)) (omega arith) (omega arith) ∙ ap (λ (k : ℕ). clash_at s n k (4 + 5 * (i + 1)) (n - (i + 1))) (omega arith)
