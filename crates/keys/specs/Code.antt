-- How code writes keys, as the five bytes of their literals (01, "Records": kind, tag, atom, the highest byte first).
-- In order: a key's five bytes; those of a list of keys; keys that five bytes hold.
-- Assumes nothing.
use Rattle.std.specs.Prelude.{ℕ, ◌/◌, ◌%◌, ◌<◌, List, [], ◌∷◌, ◌++◌, T}
use Rattle.buffer.specs.Bytes.{two_bytes}
use Rattle.keys.specs.Keys.{key_in}

-- kind, tag and atom of a key
unfoldable pub bytes_of : ℕ → List ℕ
bytes_of k = k / 4294967296 ∷ (two_bytes (k / 65536 % 65536) ++ two_bytes (k % 65536))

-- keys one behind the other
unfoldable pub key_bytes : List ℕ → List ℕ
key_bytes [] = []
key_bytes (k ∷ ks) = bytes_of k ++ key_bytes ks

-- each key fits five bytes
abbrev pub Fitting : List ℕ → Type 0
Fitting ks = (k : ℕ) → T (key_in k ks) → k < 1099511627776
