-- Numbers finished in their place: the first k are numbers already, of the others the words' counts are there yet.
-- In order: a loop that finishes numbers; what was gathered, finished as a list.
-- Assumes nothing.
use Prim.Native.Nat.{ℕ, ◌≤◌, ◌<◌}
use native.Mathlib.Omega.{arith}
use mathlib.Core.Path.{◌≡◌, ◌∙◌}
use mathlib.Core.List.{List}
use lib.ListN.{length, get_or, take}
use lib.Seq.{get_or-take, length-take-le, ext_get_or}
use Rattle.aspif_number.specs.Code.{Front, Gathered, Finished}

-- numbers d became e: the first k are finished, the others are as they came
pub record Finishing (masks d e : List ℕ) (k : ℕ) : Type 0 where
  pub done : Finished masks d e k
  pub left : (j : ℕ) → k ≤ j → get_or e j 0 ≡ get_or d j 0

-- what is gathered, finished, is the list of the numbers
pub finished-front : {masks d e ns : List ℕ} → Gathered masks d ns → (k : ℕ) → k ≡ length ns → k ≤ length e → Finished masks d e k → Front e ns
finished-front {masks} {d} {e} {ns} g k long h f =
    let whole = length-take-le (length ns) e (omega arith) in
    ext_get_or 0 (take (length ns) e) ns whole
    (λ j l. at_place j (omega (arith, whole)))
  where
    at_place : (j : ℕ) → j < length ns → get_or (take (length ns) e) j 0 ≡ get_or ns j 0
    at_place j l = get_or-take (length ns) e j 0 l ∙ f.number j (omega arith) ∙ g.sum j l
