-- Laws of one write right before another: for what is written last and stands first.
-- In order: two writes are one; two writes in a row, each done, whose place is told by an equation. Assumes nothing.
use Prim.Native.Nat.{ℕ, ◌+◌, ◌≤◌}
use native.Mathlib.Omega.{arith}
use mathlib.Core.Path.{◌≡◌, sym, ◌∙◌, ap, ap₂}
use mathlib.Core.List.{List, ◌++◌, append_assoc}
use lib.ListN.{length, take, drop, length-append}
use lib.Seq.{take-append-le, take-take, drop_at, length-take-le}
use Rattle.buffer.specs.Write.{write}

-- two writes, one right before the other, are one
pub write-before : (d : List ℕ) (at : ℕ) (hs bs : List ℕ) → at + length hs ≤ length d → write (write d (at + length hs) bs) at hs ≡ write d at (hs ++ bs)
unfolding write
write-before d at hs bs h =
    ap₂ (λ (u v : List ℕ). u ++ (hs ++ v)) front back
    ∙ ap (λ (v : List ℕ). take at d ++ v)
    (sym (append_assoc hs bs (drop (at + length hs + length bs) d))
    ∙ ap (λ (n : ℕ). (hs ++ bs) ++ drop n d) behind)
  where
    behind : at + length hs + length bs ≡ at + length (hs ++ bs)
    behind = omega (arith, length-append hs bs)

    long : length (take (at + length hs) d) ≡ at + length hs
    long = length-take-le (at + length hs) d h

    front : take at (take (at + length hs) d ++ (bs ++ drop (at + length hs + length bs) d)) ≡ take at d
    front =
        take-append-le at (take (at + length hs) d) (bs ++ drop (at + length hs + length bs) d) (omega (arith, long))
        ∙ take-take at (at + length hs) d (omega arith)

    back : drop (at + length hs) (take (at + length hs) d ++ (bs ++ drop (at + length hs + length bs) d)) ≡ bs ++ drop (at + length hs + length bs) d
    back = drop_at (take (at + length hs) d) (bs ++ drop (at + length hs + length bs) d) (at + length hs) long

-- what is written to e, right before what made e of d, is written to d before that
pub write-ahead : (d : List ℕ) (at : ℕ) (hs : List ℕ) (next : ℕ) (bs : List ℕ) → at + length hs ≤ length d → next ≡ at + length hs
    → {e f : List ℕ} → e ≡ write d next bs → f ≡ write e at hs → f ≡ write d at (hs ++ bs)
write-ahead d at hs next bs h ahead done then =
    then ∙ ap (λ (x : List ℕ). write x at hs) (done ∙ ap (λ (n : ℕ). write d n bs) ahead) ∙ write-before d at hs bs h
