-- Counting the literals of a set's slice before the first of kinds 4 to 6, one step each.
-- Assumes nothing.
use Prim.Native.Nat.{ℕ, zero, suc, ◌+◌, ◌-◌, ◌≤◌, ◌<◌}
use native.Mathlib.Omega.{arith}
use native.Mathlib.Nat.{add-zero, zero-add}
use mathlib.Core.Path.{◌≡◌, sym, ◌∙◌, ap}
use mathlib.Core.List.{List}
use lib.ListN.{get_or}
use borrow.Author.Tests.{le-leb, lt-leb}
use Rattle.restrict.specs.Code.{source_front}

-- none is held yet
pub front-start : (s : List ℕ) (at count : ℕ) → source_front s at count ≡ 0 + source_front s at (count - 0)
front-start s at count = ap (source_front s at) all_left ∙ sym (zero-add (source_front s at (count - 0)))
  where
    all_left : count ≡ count - 0
    all_left = omega arith

-- a source literal, a mark, the end
module _ (s : List ℕ) (at held count : ℕ) where
  pub front-next : held < count → get_or s at 0 ≤ 3 → held + source_front s at (count - held) ≡ held + 1 + source_front s (at + 5) (count - (held + 1))
  unfolding source_front
  front-next h k = ap (λ (n : ℕ). held + source_front s at n) back ∙ rw (le-leb (get_or s at 0) 3 k) (omega arith)
    where
      back : count - held ≡ suc (count - (held + 1))
      back = omega arith

  pub front-mark : 3 < get_or s at 0 → held + source_front s at (count - held) ≡ held
  unfolding source_front
  front-mark k = go (count - held)
    where
      go : (n : ℕ) → held + source_front s at n ≡ held
      go zero = add-zero held
      go (suc n) = rw (lt-leb (get_or s at 0) 3 k) (add-zero held)

  pub front-end : count ≤ held → held + source_front s at (count - held) ≡ held
  unfolding source_front
  front-end h = ap (λ (n : ℕ). held + source_front s at n) none ∙ add-zero held
    where
      none : count - held ≡ 0
      none = omega arith
