-- Laws of one write right behind another, whose place is told by an equation.
-- In order: two writes are one; once the first part is written, the second is left; two writes in a row, each done.
-- Assumes nothing.
use Prim.Native.Nat.{ℕ, ◌+◌, ◌≤◌}
use mathlib.Core.Path.{◌≡◌, sym, ◌∙◌, ap}
use mathlib.Core.List.{List, ◌++◌}
use lib.ListN.{length}
use Rattle.buffer.specs.Write.{write}
use Rattle.buffer.proofs.Laws.Write.{write-write}

module _ (d : List ℕ) (at : ℕ) (bs : List ℕ) (next : ℕ) (cs : List ℕ) (within : at ≤ length d) (behind : next ≡ at + length bs) where
  -- two writes, one right behind the other, are one
  pub write_then : write (write d at bs) next cs ≡ write d at (bs ++ cs)
  write_then = ap (λ (n : ℕ). write (write d at bs) n cs) behind ∙ write-write d at bs within cs

  -- once the first part of a write is done, the second is left
  pub write-left : (e : List ℕ) → e ≡ write d at bs → write d at (bs ++ cs) ≡ write e next cs
  write-left e done = sym write_then ∙ ap (λ (x : List ℕ). write x next cs) (sym done)

  -- what is written to e, right behind what made e of d, is written to d behind that
  pub write-behind : {e f : List ℕ} → e ≡ write d at bs → f ≡ write e next cs → f ≡ write d at (bs ++ cs)
  write-behind done then = then ∙ ap (λ (x : List ℕ). write x next cs) done ∙ write_then
