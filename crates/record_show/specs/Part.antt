-- A part of a slice that is handed back: its bytes, and where it lies.
-- A slice's pointer is a block and an offset in it.
-- Assumes nothing.
use Rattle.std.specs.Prelude.{ℕ, ◌+◌, ◌≡◌, List, take, drop}
use Rattle.std.specs.Borrow.{Bor}
use Rattle.record_show.specs.declared.Extent.{Extent}

-- r is the part of s that e gives: it holds those bytes, and points into the same block, as many bytes further on
pub record PartAt (s r : Bor (List ℕ)) (e : Extent) : Type 0 where
  pub bytes : r.now ≡ take e.size (drop e.start s.now)
  pub block : r.ref_ptr.0 ≡ s.ref_ptr.0
  pub offset : r.ref_ptr.1 ≡ e.start + s.ref_ptr.1
