-- Laws of writes in a row, each told with the place behind it; and of a loop that writes: what is left to write.
-- In order: a byte; one write behind another; what is left: at the start, after a write, at the end.
-- Assumes nothing.
use Prim.Native.Nat.{ℕ, ◌+◌, ◌≤◌}
use native.Mathlib.Omega.{arith}
use native.Mathlib.Nat.{add-zero}
use mathlib.Core.Path.{◌≡◌, refl, sym, ◌∙◌, ap}
use mathlib.Core.List.{List, [], ◌++◌}
use lib.ListN.{length, length-append}
use Rattle.buffer.specs.Write.{write, Wrote}
use Rattle.buffer.proofs.Laws.Write.{write-nil, length-write}
use Rattle.buffer.proofs.Laws.Next.{write-left, write-behind}

-- a write that was told by its bytes alone
pub wrote : {d e : List ℕ} (at : ℕ) (bs : List ℕ) (r : ℕ) → e ≡ write d at bs → r ≡ at + length bs → Wrote d e at bs r
wrote at bs r bytes next = record { bytes = bytes; next = next }

-- one write right behind another
pub wrote_then : {d e f : List ℕ} {at n m : ℕ} {bs cs : List ℕ} → at ≤ length d → Wrote d e at bs n → Wrote e f n cs m → Wrote d f at (bs ++ cs) m
wrote_then {d} {at = at} {n} {bs = bs} {cs} within v w =
    record {
      bytes = write-behind d at bs n cs within v.next v.bytes w.bytes;
      next = omega (arith, v.next, w.next, length-append bs cs);
    }

-- what was to be written to out₀ from `to` on is what is left to be written to out from `next` on, and there is room
pub record Writing (out₀ out : List ℕ) (to next : ℕ) (all rest : List ℕ) : Type 0 where
  pub same : length out ≡ length out₀
  pub fits : next + length rest ≤ length out
  pub ends : next + length rest ≡ to + length all
  pub bytes : write out₀ to all ≡ write out next rest

pub writing_start : (out : List ℕ) (to : ℕ) (all : List ℕ) → to + length all ≤ length out → Writing out out to to all all
writing_start out to all h = record { same = refl; fits = h; ends = refl; bytes = refl }

pub writing-next : {out₀ out e : List ℕ} {to next n : ℕ} {all : List ℕ} (bs rest : List ℕ) → Writing out₀ out to next all (bs ++ rest) → Wrote out e next bs n
    → Writing out₀ e to n all rest
writing-next {out = out} {next = next} {n} bs rest w v =
    let long = length-append bs rest in
    let kept = ap length v.bytes ∙ length-write out next bs (omega (arith, w.fits)) in
    record {
      same = kept ∙ w.same;
      fits = omega (arith, w.fits, v.next);
      ends = omega (arith, w.ends, v.next);
      bytes = w.bytes ∙ write-left out next bs n rest (omega (arith, w.fits)) v.next _ v.bytes;
    }

pub writing-end : {out₀ out : List ℕ} {to next : ℕ} {all : List ℕ} → Writing out₀ out to next all [] → Wrote out₀ out to all next
writing-end {out = out} {next = next} w = record { bytes = sym (w.bytes ∙ write-nil out next); next = sym (add-zero next) ∙ w.ends }
