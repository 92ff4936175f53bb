-- A table of the figures of numbers below 1000, filled from its start.
-- In order: the first i entries; one more; all.
-- Assumes nothing.
use Prim.Native.Nat.{ℕ, ◌+◌, ◌≤◌, ◌<◌}
use native.Mathlib.Omega.{arith}
use mathlib.Core.Path.{◌≡◌, refl, ◌∙◌}
use mathlib.Core.Bool.{Bool, true, false}
use mathlib.Core.List.{List}
use lib.Dec.{eqb}
use lib.ListN.{length, get_or, set}
use lib.Seq.{get_or-set_same, get_or-set_other}
use borrow.Author.Tests.{eqb-true, eqb-false}
use Rattle.decimal.specs.Code.{three_figures, Figures}

-- the first i entries are there
pub record Filled (table : List ℕ) (i : ℕ) : Type 0 where
  pub done : (k : ℕ) → k < i → get_or table k 0 ≡ three_figures k

pub filled_next : (table : List ℕ) (i v : ℕ) → Filled table i → i < length table → v ≡ three_figures i → Filled (set table i v) (i + 1)
filled_next table i v f h e = record { done = λ k g. at_place k g (eqb k i) refl }
  where
    at_place : (k : ℕ) → k < i + 1 → (b : Bool) → eqb k i ≡ b → get_or (set table i v) k 0 ≡ three_figures k
    at_place k g true p = rw (eqb-true k i p) (get_or-set_same table i v 0 h ∙ e)
    at_place k g false p =
        let other = eqb-false k i p in
        let below : k < i = omega (arith, other) in
        get_or-set_other table i k v 0 other ∙ f.done k below

pub filled-all : (table : List ℕ) (i : ℕ) → length table ≡ 1000 → 1000 ≤ i → Filled table i → Figures table
filled-all table i l h f = record { long = l; entry = λ k g. f.done k (omega arith) }
