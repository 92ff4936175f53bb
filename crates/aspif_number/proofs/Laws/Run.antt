-- A run of literals: room for the first place and for those behind it; the same count told twice.
-- Assumes nothing.
use Prim.Native.Nat.{ℕ, ◌+◌, ◌*◌, ◌-◌, ◌<◌}
use mathlib.Core.Path.{◌≡◌, subst}
use mathlib.Core.List.{List, ◌∷◌}
use lib.Dec.{ltb, ltb→lt}
use lib.ListN.{drop}
use Rattle.semantics.specs.Set.{each_of}
use Rattle.semantics.proofs.Laws.Tests.{first, second}
use Rattle.aspif_place.specs.Code.{place_at}
use Rattle.aspif_number.specs.Code.{Gained, places_at, Room}
use Rattle.aspif_number.proofs.Laws.Place.{places-first}

-- the room of the first place, and of those behind it
module _ (n : ℕ) (s : List ℕ) (at left : ℕ) (room : Room n (places_at s at left)) (h : 0 < left) where
  rooms : Room n (place_at (drop at s) ∷ places_at s (at + 5) (left - 1))
  rooms = subst (Room n) (places-first s at left h) room

  pub room-first : place_at (drop at s) < 64 * n
  room-first =
      let k = place_at (drop at s) in
      ltb→lt k (64 * n) (first (ltb k (64 * n)) (each_of (λ j. ltb j (64 * n)) (places_at s (at + 5) (left - 1))) rooms)

  pub room-behind : Room n (places_at s (at + 5) (left - 1))
  room-behind = second (ltb (place_at (drop at s)) (64 * n)) (each_of (λ j. ltb j (64 * n)) (places_at s (at + 5) (left - 1))) rooms

-- a run told by another count, which is the same
module _ (s : List ℕ) (from k count : ℕ) (e : k ≡ count) where
  pub gained-told : {d f : List ℕ} → Gained d f (places_at s from k) → Gained d f (places_at s from count)
  gained-told g = rw e at g
