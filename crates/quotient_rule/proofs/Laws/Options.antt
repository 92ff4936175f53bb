-- Laws of the options that are left of a record, as they are written.
-- In order: none; the first, and those behind it. Assumes nothing.
use Prim.Native.Nat.{ℕ, ◌+◌, ◌≤◌}
use native.Mathlib.Omega.{arith}
use mathlib.Core.Path.{◌≡◌, refl, sym, ap}
use mathlib.Core.List.{List, [], ◌∷◌}
use lib.ListN.{length}
use Rattle.buffer.specs.Write.{write}
use Rattle.buffer.proofs.Laws.Write.{write-nil}
use Rattle.buffer.proofs.Laws.Next.{write-left}
use Rattle.literal.specs.declared.Literal.{Literal}
use Rattle.literal.specs.Literal.{encoded}
use Rattle.literal.proofs.Laws.Literal.{length-encoded}
use Rattle.record.specs.Layout.{encoded_literals}

-- nothing, written as literals
pub write-none : (d : List ℕ) (to : ℕ) → write d to (encoded_literals []) ≡ d
unfolding encoded_literals
write-none d to = write-nil d to

-- the same of a list that has no literal
pub write-empty : (d : List ℕ) (to : ℕ) (ls : List Literal) → length ls ≡ 0 → write d to (encoded_literals ls) ≡ d
write-empty d to [] h = write-none d to
write-empty d to (l ∷ ls) h = absurd (omega arith)

-- the first of some literals, and the others behind it
pub write-first : (d : List ℕ) (at : ℕ) (l : Literal) (ls : List Literal) → at ≤ length d
    → write d at (encoded_literals (l ∷ ls)) ≡ write (write d at (encoded l)) (at + 5) (encoded_literals ls)
unfolding encoded_literals
write-first d at l ls h = write-left d at (encoded l) (at + 5) (encoded_literals ls) h (ap (λ (n : ℕ). at + n) (sym (length-encoded l))) (write d at (encoded l)) refl
