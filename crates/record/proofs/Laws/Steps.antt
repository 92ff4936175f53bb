-- Reading record by record, one step each: what the next record decides. Assumes nothing.
use Prim.Native.Nat.{ℕ, suc, ◌+◌}
use Rattle.std.specs.Prelude.{Ok, Err}
use mathlib.Core.Path.{◌≡◌, ap}
use mathlib.Core.List.{List, [], ◌∷◌}
use lib.ListN.{drop}
use Rattle.literal.specs.declared.Limits.{Limits}
use Rattle.semantics.specs.Item.{Item}
use Rattle.record.specs.declared.Refusal.{Refusal}
use Rattle.record.specs.declared.Held.{Held}
use Rattle.record.specs.Refusal.{shifted}
use Rattle.record.specs.Result.{Answer, and_then}
use Rattle.record.specs.Reading.{Entry, item, end, record_at, holding, items_from}

module _ (F : Limits) (f : ℕ) (t : List ℕ) (at : ℕ) (h : Held) where
  step : Answer Entry → Answer (List Item)
  step x =
      elim x [
        | Err y ↦ Err (shifted at y)
        | Ok e ↦ elim e [ item i size ↦ and_then (items_from F f (drop size t) (at + size) (holding h i)) (λ is. Ok (i ∷ is)) | end ↦ Ok [] ]
      ]

  -- a refusal ends it, with its place counted from the slice's start
  pub items_refused : (x : Refusal) → record_at F h t ≡ Err x → items_from F (suc f) t at h ≡ Err (shifted at x)
  unfolding items_from step
  items_refused x e = ap step e

  -- an item goes before those of the part behind it
  pub items-item : (i : Item) (size : ℕ) → record_at F h t ≡ Ok (item i size)
      → items_from F (suc f) t at h ≡ and_then (items_from F f (drop size t) (at + size) (holding h i)) (λ is. Ok (i ∷ is))
  unfolding items_from step
  items-item i size e = ap step e

  -- the end record ends it
  pub items-end : record_at F h t ≡ Ok end → items_from F (suc f) t at h ≡ Ok []
  unfolding items_from step
  items-end e = ap step e
