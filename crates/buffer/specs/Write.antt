-- A list written over part of another: what a lent slice holds after a write.
-- Not here: what is written (each operation's own definitions).
-- Assumes nothing.
use Rattle.std.specs.Prelude.{ℕ, ◌+◌, ◌≡◌, List, ◌++◌, length, take, drop}

-- d with bs in place of as many elements from `at` on
unfoldable pub write : List ℕ → ℕ → List ℕ → List ℕ
write d at bs = take at d ++ (bs ++ drop (at + length bs) d)

-- a slice d became e: bs was written from `at` on, and what follows is written from r on
pub record Wrote (d e : List ℕ) (at : ℕ) (bs : List ℕ) (r : ℕ) : Type 0 where
  pub bytes : e ≡ write d at bs
  pub next : r ≡ at + length bs

-- a slice d became e, as long: up to `at` it is as before, then bs stands up to r; what is behind may be anything
pub record Begun (d e : List ℕ) (at : ℕ) (bs : List ℕ) (r : ℕ) : Type 0 where
  pub same : length e ≡ length d
  pub bytes : take r e ≡ take at d ++ bs
  pub next : r ≡ at + length bs
