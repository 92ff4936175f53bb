-- Laws of a set that is written: what stands before its literals, and its literals behind that.
-- Assumes nothing.
use Prim.Native.Nat.{ℕ, ◌≤◌}
use native.Mathlib.Omega.{arith}
use mathlib.Core.Path.{◌≡◌, refl, ◌∙◌, ap}
use mathlib.Core.List.{List, [], ◌∷◌, ◌++◌}
use lib.ListN.{length, set}
use Rattle.buffer.specs.Bytes.{two_bytes}
use Rattle.buffer.specs.Write.{write}
use Rattle.buffer.proofs.Laws.Write.{two-sets-write}
use Rattle.buffer.proofs.Laws.Next.{write-behind}
use Rattle.literal.specs.declared.Literal.{Literal}
use Rattle.record.specs.Header.{set_letter, colon}
use Rattle.record.specs.Layout.{encoded_literals}
use Rattle.set.specs.Layout.{encoded_set}
use Rattle.set.specs.Code.{set_header}

-- two stores and a number behind them
pub set-header-stores : (d e : List ℕ) (n : ℕ) → 4 ≤ length d → e ≡ write (set (set d 0 set_letter) 1 colon) 2 (two_bytes n) → e ≡ write d 0 (set_header n)
unfolding set_header
set-header-stores d e n fits done =
    write-behind d 0 (set_letter ∷ colon ∷ []) 2 (two_bytes n) (omega arith) refl (two-sets-write d 0 set_letter colon (omega arith)) done

-- the literals behind their number are the set
pub set-written : (d : List ℕ) {e f : List ℕ} (ls : List Literal) (n : ℕ) (bs : List ℕ) → n ≡ length ls → bs ≡ encoded_literals ls
    → e ≡ write d 0 (set_header n) → f ≡ write e 4 bs → f ≡ write d 0 (encoded_set ls)
unfolding set_header encoded_set
set-written d ls n bs count same front done =
    write-behind d 0 (set_header n) 4 bs (omega arith) refl front done
    ∙ ap (λ (m : ℕ). write d 0 (set_header m ++ bs)) count
    ∙ ap (λ (cs : List ℕ). write d 0 (set_header (length ls) ++ cs)) same
