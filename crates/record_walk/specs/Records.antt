-- What a walk from record to record gives (01, "Records").
-- Assumes nothing.
use Rattle.std.specs.Prelude.{ℕ, ◌≤◌, ◌<◌, ◌≡◌, ◌⊎◌, List, ◌++◌, length, Option, None, Some}
use Rattle.std.specs.Borrow.{Bor}
use Rattle.record_walk.specs.Code.{item_size}
use Rattle.record_walk.specs.declared.records.Records.{Records}

-- no record starts the bytes r, or it is not whole
abbrev pub Over : List ℕ → Type 0
Over r = length r < 7 ⊎ length r < item_size r

-- x is the record that starts the bytes r, and t is what stands behind it
pub record Front (r x t : List ℕ) : Type 0 where
  pub bytes : r ≡ x ++ t
  pub size : length x ≡ item_size r
  pub long : 7 ≤ length r

-- a call of `next`: the record that starts what is left, or none is whole
abbrev pub Gives : Records → Option (Bor (List ℕ)) → Records → Type 0
Gives old None new = Over old.rest.now
Gives old (Some x) new = Front old.rest.now x.now new.rest.now
