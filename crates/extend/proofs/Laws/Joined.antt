-- Laws of a set's record with marks behind its literals, as it is written: its header, the literals' bytes, the keys' bytes.
-- Assumes nothing.
use Prim.Native.Nat.{ℕ, ◌+◌, ◌*◌, ◌≤◌}
use native.Mathlib.Omega.{arith}
use mathlib.Core.Path.{◌≡◌, refl}
use mathlib.Core.List.{List, ◌++◌}
use lib.ListN.{length, take, drop, length-append, length-take, length-drop}
use Rattle.buffer.specs.Write.{write}
use Rattle.buffer.proofs.Laws.Next.{write-behind}
use Rattle.set.specs.Code.{set_header}
use Rattle.keys.specs.Code.{key_bytes}
use Rattle.extend.specs.Code.{joined}

-- four bytes
length-header : (n : ℕ) → length (set_header n) ≡ 4
unfolding set_header
length-header n = refl

-- the literals of the set, as they are copied
length-copied : (k : List ℕ) (count : ℕ) → 4 + 5 * count ≤ length k → length (take (5 * count) (drop 4 k)) ≡ 5 * count
length-copied k count h = omega (arith, length-take (5 * count) (drop 4 k), length-drop 4 k)

-- the three writes, one behind the other
pub joined-writes : (k : List ℕ) (count : ℕ) (ks : List ℕ) (n : ℕ) (d e f g : List ℕ) → 4 + 5 * count ≤ length k
    → e ≡ write d 0 (set_header (count + n)) → f ≡ write e 4 (take (5 * count) (drop 4 k)) → g ≡ write f (4 + 5 * count) (key_bytes ks)
    → g ≡ write d 0 (joined k count ks n)
unfolding joined
joined-writes k count ks n d e f g h one two three =
    let size : 4 + 5 * count ≡ 0 + length (set_header (count + n) ++ take (5 * count) (drop 4 k)) = omega
    (arith, length-append (set_header (count + n)) (take (5 * count) (drop 4 k)), length-header (count + n), length-copied k count h) in
    write-behind d 0 (set_header (count + n) ++ take (5 * count) (drop 4 k)) (4 + 5 * count) (key_bytes ks) (omega arith) size
    (write-behind d 0 (set_header (count + n)) 4 (take (5 * count) (drop 4 k)) (omega arith) (omega (arith, length-header (count + n))) one two) three
