-- Laws of lists of bytes and of the numbers in them.
-- In order: lists of bytes, made, taken apart and joined; the bytes of a field; a number's two bytes and back.
-- Assumes nothing.
use Prim.Native.Nat.{ℕ, zero, suc, ◌+◌, ◌/◌, ◌%◌, ◌<◌}
use native.Mathlib.Omega.{arith}
use mathlib.Core.Path.{◌≡◌}
use mathlib.Core.List.{List, [], ◌∷◌, ◌++◌}
use lib.Arith.{digits_div, digits_mod}
use lib.ListN.{take, drop}
use lib.Seq.{get_or-drop}
use Rattle.buffer.specs.Bytes.{Bytes, two_bytes, number}

-- no byte
pub bytes-nil : Bytes []
bytes-nil i = omega arith

-- one byte more
pub bytes-cons : {b : ℕ} (bs : List ℕ) → b < 256 → Bytes bs → Bytes (b ∷ bs)
bytes-cons bs h t zero = h
bytes-cons bs h t (suc i) = t i

-- the bytes behind the first
pub bytes-tail : (b : ℕ) (bs : List ℕ) → Bytes (b ∷ bs) → Bytes bs
bytes-tail b bs t i = t (suc i)

-- the bytes at the front
pub bytes_take : (n : ℕ) (bs : List ℕ) → Bytes bs → Bytes (take n bs)
bytes_take zero bs t = bytes-nil
bytes_take (suc n) [] t = bytes-nil
bytes_take (suc n) (b ∷ bs) t = bytes-cons (take n bs) (t 0) (bytes_take n bs (bytes-tail b bs t))

-- the bytes from a place on
pub bytes_drop : (n : ℕ) (bs : List ℕ) → Bytes bs → Bytes (drop n bs)
bytes_drop n bs t i = rw get_or-drop (t (n + i))

-- bytes behind bytes
pub bytes-append : (bs cs : List ℕ) → Bytes bs → Bytes cs → Bytes (bs ++ cs)
bytes-append [] cs t u = u
bytes-append (b ∷ bs) cs t u = bytes-cons (bs ++ cs) (t 0) (bytes-append bs cs (bytes-tail b bs t) u)

-- both parts of bytes are bytes
pub bytes-front : (bs cs : List ℕ) → Bytes (bs ++ cs) → Bytes bs
bytes-front [] cs t = bytes-nil
bytes-front (b ∷ bs) cs t = bytes-cons bs (t 0) (bytes-front bs cs (bytes-tail b (bs ++ cs) t))

pub bytes-behind : (bs cs : List ℕ) → Bytes (bs ++ cs) → Bytes cs
bytes-behind [] cs t = t
bytes-behind (b ∷ bs) cs t = bytes-behind bs cs (bytes-tail b (bs ++ cs) t)

-- the bytes of a field of two are bytes
pub bytes-two_bytes : (n : ℕ) → n < 65536 → Bytes (two_bytes n)
bytes-two_bytes n h = bytes-cons (n % 256 ∷ []) (omega arith) (bytes-cons [] (omega arith) bytes-nil)

-- a number's two bytes spell it
pub number-two_bytes : (n : ℕ) → number (n / 256) (n % 256) ≡ n
number-two_bytes n = omega arith

-- and two bytes are those of the number that they spell
pub two_bytes-number : (high low : ℕ) → low < 256 → two_bytes (number high low) ≡ high ∷ low ∷ []
two_bytes-number high low h = rw (digits_div high h, digits_mod high h)
