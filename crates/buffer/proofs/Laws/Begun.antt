-- Laws of a text that is begun in a slice: what stands behind it may be anything, and what follows is written over that.
-- In order: nothing; one behind another; a write; the first bytes of a write.
-- Assumes nothing.
use Prim.Native.Nat.{ℕ, ◌+◌, ◌≤◌}
use native.Mathlib.Omega.{arith}
use native.Mathlib.Nat.{add-zero}
use mathlib.Core.Path.{◌≡◌, refl, sym, ◌∙◌, ap}
use mathlib.Core.List.{List, [], ◌++◌, append_assoc, append-nil}
use lib.ListN.{length, take, length-append}
use lib.Seq.{take_at, take-take, length-take-le}
use Rattle.buffer.specs.Write.{write, Wrote, Begun}
use Rattle.buffer.proofs.Laws.Write.{take-write, length-write}

pub begun-none : (d : List ℕ) (at : ℕ) → Begun d d at [] at
begun-none d at = record { same = refl; bytes = sym (append-nil (take at d)); next = sym (add-zero at) }

-- one right behind another
pub begun-then : {d e f : List ℕ} {at m r : ℕ} {xs ys : List ℕ} → Begun d e at xs m → Begun e f m ys r → Begun d f at (xs ++ ys) r
begun-then {d} {at = at} {xs = xs} {ys} v w =
    record {
      same = w.same ∙ v.same;
      bytes = w.bytes ∙ ap (λ (bs : List ℕ). bs ++ ys) v.bytes ∙ append_assoc (take at d) xs ys;
      next = omega (arith, v.next, w.next, length-append xs ys);
    }

-- more bytes than count, in one write
pub begun_more : {d e : List ℕ} (at : ℕ) (bs more : List ℕ) → at + length (bs ++ more) ≤ length d → e ≡ write d at (bs ++ more)
    → Begun d e at bs (at + length bs)
begun_more {d} {e} at bs more h written =
    record {
      same = ap length written ∙ length-write d at (bs ++ more) h;
      bytes =
          ap (take (at + length bs)) written ∙ sym (take-take (at + length bs) (at + length (bs ++ more)) (write d at (bs ++ more)) (omega (arith, long)))
          ∙ ap (take (at + length bs)) (take-write d at (bs ++ more) (omega arith) ∙ sym (append_assoc (take at d) bs more))
          ∙ take_at (take at d ++ bs) more (at + length bs) (omega (arith, length-append (take at d) bs, length-take-le at d (omega arith)));
      next = refl;
    }
  where
    long : length (bs ++ more) ≡ length bs + length more
    long = length-append bs more

-- an exact write
pub begun-wrote : {d e : List ℕ} {at r : ℕ} {bs : List ℕ} → at + length bs ≤ length d → Wrote d e at bs r → Begun d e at bs r
begun-wrote {d} {e} {at} {bs = bs} h w =
    record {
      same = ap length w.bytes ∙ length-write d at bs h;
      bytes = ap (λ (n : ℕ). take n e) w.next ∙ ap (take (at + length bs)) w.bytes ∙ take-write d at bs (omega arith);
      next = w.next;
    }
