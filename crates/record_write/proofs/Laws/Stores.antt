-- Laws of what is written piece by piece: a header, a run of bytes, an end record, a refusal.
-- Assumes nothing.
use Prim.Native.Nat.{ℕ, zero, suc, ◌+◌, ◌-◌, ◌/◌, ◌%◌, ◌≤◌, ◌<◌}
use native.Mathlib.Numerals.{towards_suc, add-one}
use native.Mathlib.Omega.{arith}
use mathlib.Core.Path.{◌≡◌, refl, sym, ◌∙◌, ap}
use mathlib.Core.List.{List, [], ◌∷◌, ◌++◌}
use lib.ListN.{length, get_or, take, drop, set}
use lib.Seq.{drop-cons}
use Rattle.buffer.specs.Bytes.{two_bytes, four_bytes}
use Rattle.buffer.specs.Write.{write}
use Rattle.buffer.proofs.Laws.Write.{sets-write, two-sets-write}
use Rattle.buffer.proofs.Laws.Next.{write-behind}
use Rattle.record.specs.declared.Refusal.{Refusal}
use Rattle.record.specs.Header.{strict_letter, end_letter, refusal_letter, colon}
use Rattle.record.specs.Refusal.{refusal_number, encoded_refusal}
use Rattle.record.specs.Layout.{encoded_end}
use Rattle.record_write.specs.Code.{header}

-- a header has seven bytes
pub length-header : (h b c : ℕ) → length (header h b c) ≡ 7
unfolding header
length-header h b c = refl

-- seven stores in a row write a header
pub header-stores : (d : List ℕ) (at h b c : ℕ) → at + 7 ≤ length d
    → set (set (set (set (set (set (set d at strict_letter) (at + 1) colon) (at + 2) 0) (at + 3) 0) (at + 4) h) (at + 5) b) (at + 6) c
    ≡ write d at (header h b c)
unfolding header
header-stores d at h b c fits = simp towards_suc (sets-write d at (header h b c) (omega arith))

module _ (s : List ℕ) where
  -- the first byte of a run, and those that are left
  pub bytes-first : (at n : ℕ) → 0 < n → at < length s → take n (drop at s) ≡ (get_or s at 0 ∷ []) ++ take (n - 1) (drop (at + 1) s)
  bytes-first at zero h k = absurd (omega arith)
  bytes-first at (suc n) h k =
      ap (take (suc n)) (drop-cons s at 0 k) ∙ ap (λ (i : ℕ). get_or s at 0 ∷ take n (drop i s)) (sym (add-one at))
      ∙ ap (λ (m : ℕ). get_or s at 0 ∷ take m (drop (at + 1) s)) back
    where
      back : n ≡ suc n - 1
      back = omega arith

  -- no byte left
  pub bytes-none : (at n : ℕ) → n ≤ 0 → take n (drop at s) ≡ []
  bytes-none at zero h = refl
  bytes-none at (suc n) h = absurd (omega arith)

  -- of n bytes from a place on, the one behind i of them, and those behind it
  pub bytes-next : (at n i : ℕ) → i < n → at + n ≤ length s
      → take (n - i) (drop (at + i) s) ≡ (get_or s (at + i) 0 ∷ []) ++ take (n - (i + 1)) (drop (at + (i + 1)) s)
  bytes-next at n i h k =
      bytes-first (at + i) (n - i) (omega arith) (omega arith)
      ∙ ap (λ (m : ℕ). get_or s (at + i) 0 ∷ take m (drop (at + i + 1) s)) fewer
      ∙ ap (λ (j : ℕ). get_or s (at + i) 0 ∷ take (n - (i + 1)) (drop j s)) behind
    where
      fewer : n - i - 1 ≡ n - (i + 1)
      fewer = omega arith

      behind : at + i + 1 ≡ at + (i + 1)
      behind = omega arith

-- two stores and a number behind them write an end record
pub end-stores : (d e : List ℕ) (at n : ℕ) → at + 4 ≤ length d
    → e ≡ write (set (set d at end_letter) (at + 1) colon) (at + 2) (two_bytes n) → e ≡ write d at (encoded_end n)
unfolding encoded_end
end-stores d e at n fits done =
    write-behind d at (end_letter ∷ colon ∷ []) (at + 2) (two_bytes n) (omega arith) refl (two-sets-write d at end_letter colon (omega arith)) done

-- three stores and two numbers behind them write an R: record
pub refusal-stores : (d e f : List ℕ) (x : Refusal) (n : ℕ) → 7 ≤ length d → n ≡ refusal_number x
    → e ≡ write (set (set (set d 0 refusal_letter) 1 colon) 2 n) 3 (two_bytes (x.place / 65536))
    → f ≡ write e 5 (two_bytes (x.place % 65536)) → f ≡ write d 0 (encoded_refusal x)
unfolding encoded_refusal
refusal-stores d e f x n fits same one two =
    write-behind d 0 ((refusal_letter ∷ colon ∷ n ∷ []) ++ two_bytes (x.place / 65536)) 5 (two_bytes (x.place % 65536)) (omega arith) refl
    (write-behind d 0 (refusal_letter ∷ colon ∷ n ∷ []) 3 (two_bytes (x.place / 65536)) (omega arith) refl
    (sets-write d 0 (refusal_letter ∷ colon ∷ n ∷ []) (omega arith)) one) two
    ∙ ap (λ (m : ℕ). write d 0 (refusal_letter ∷ colon ∷ m ∷ four_bytes x.place)) same
