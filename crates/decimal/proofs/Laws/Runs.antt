-- Figures stored in a row are a decimal written, if the number has at most five.
-- In order: stores in a row; the bytes of four figures in one number; how many four or five are; one figure, two, three; four or five, the first
-- of five stored always.
-- Assumes nothing.
use Prim.Native.Nat.{ℕ, ◌+◌, ◌/◌, ◌%◌, ◌≤◌, ◌<◌}
use native.Mathlib.Nat.{add-zero}
use native.Mathlib.Numerals.{towards_suc}
use native.Mathlib.Omega.{arith}
use mathlib.Core.Path.{◌≡◌, refl, sym, ◌∙◌, ap}
use mathlib.Core.Bool.{Bool, true, false}
use mathlib.Core.List.{List, [], ◌∷◌}
use Rattle.std.specs.Int.{w32, to_le_bytes}
use lib.Dec.{leb}
use lib.ListN.{length, set}
use lib.Seq.{take-set-le, drop-set-lt}
use mir.Val.{bool_byte}
use borrow.Author.Tests.{leb-true, leb-false}
use Rattle.buffer.specs.Write.{write, Wrote}
use Rattle.buffer.proofs.Laws.Next.{write_then}
use Rattle.buffer.proofs.Laws.Write.{set-write, sets-write, two-sets-write}
use Rattle.decimal.specs.Decimal.{figure, decimal}
use Rattle.decimal.specs.Code.{four_figures, Packed}
use Rattle.decimal.proofs.Laws.Decimal.{decimal-less, length-less}
use Rattle.decimal.proofs.Laws.Few.{decimal-two, decimal-three, decimal-four, decimal-five}

module _ (d : List ℕ) (at : ℕ) where
  -- three stores in a row are one write
  three-sets-write : (a b c : ℕ) → at + 3 ≤ length d → set (set (set d at a) (at + 1) b) (at + 2) c ≡ write d at (a ∷ b ∷ c ∷ [])
  three-sets-write a b c h = simp towards_suc (sets-write d at (a ∷ b ∷ c ∷ []) (omega arith))

  -- what is stored where something else is written is not seen
  write-over : (v b : ℕ) (bs : List ℕ) → write (set d at v) at (b ∷ bs) ≡ write d at (b ∷ bs)
  unfolding write
  write-over v b bs = rw (take-set-le at d at v (omega arith), drop-set-lt (at + length (b ∷ bs)) d at v (omega arith))

-- the four bytes of a packed number
pub packed-bytes : (n r : ℕ) → Packed n r → to_le_bytes w32 r ≡ four_figures n
packed-bytes n r p = four (omega (arith, p.first)) (omega (arith, p.second)) (omega (arith, p.third)) (omega (arith, p.fourth))
  where
    four : {a b c d x y z v : ℕ} → a ≡ x → b ≡ y → c ≡ z → d ≡ v → a ∷ b ∷ c ∷ d ∷ [] ≡ x ∷ y ∷ z ∷ v ∷ []
    four h i j k = rw (h, i, j, k) refl

-- four figures, or five
pub more-long : (n : ℕ) → 1000 ≤ n → n < 100000 → length (decimal n) ≡ bool_byte (leb 10000 n) + 4
more-long n h k = go (leb 10000 n) refl
  where
    go : (t : Bool) → leb 10000 n ≡ t → length (decimal n) ≡ bool_byte t + 4
    go true t = ap length (decimal-five n (leb-true 10000 n t) k)
    go false t = ap length (decimal-four n h (leb-false 10000 n t))

module _ (d : List ℕ) (at n : ℕ) (room : at + length (decimal n) ≤ length d) where
  pub one-stored : n < 10 → Wrote d (set d at (figure n)) at (decimal n) (at + 1)
  one-stored h =
      let long = length-less n h in
      record { bytes = set-write d at (figure n) (omega arith) ∙ ap (write d at) (sym (decimal-less n h)); next = omega (arith, long) }

  pub two-stored : 10 ≤ n → n < 100 → Wrote d (set (set d at (figure (n / 10))) (at + 1) (figure (n % 10))) at (decimal n) (at + 2)
  two-stored h k =
      let long = ap length (decimal-two n h k) in
      record {
        bytes = two-sets-write d at (figure (n / 10)) (figure (n % 10)) (omega arith) ∙ ap (write d at) (sym (decimal-two n h k));
        next = omega (arith, long);
      }

  pub three-stored : 100 ≤ n → n < 1000
      → Wrote d (set (set (set d at (figure (n / 100))) (at + 1) (figure (n / 10 % 10))) (at + 2) (figure (n % 10))) at (decimal n) (at + 3)
  three-stored h k =
      let long = ap length (decimal-three n h k) in
      record {
        bytes =
            three-sets-write d at (figure (n / 100)) (figure (n / 10 % 10)) (figure (n % 10)) (omega arith)
            ∙ ap (write d at) (sym (decimal-three n h k));
        next = omega (arith, long);
      }

  -- the first of five, and the other four behind it or, if there are no more, over it
  pub more-stored : 1000 ≤ n → n < 100000 → (e : List ℕ)
      → e ≡ write (set d at (figure (n / 10000))) (at + bool_byte (leb 10000 n)) (four_figures (n % 10000))
      → Wrote d e at (decimal n) (at + bool_byte (leb 10000 n) + 4)
  more-stored h k e done = go (leb 10000 n) refl done
    where
      go : (t : Bool) → leb 10000 n ≡ t → e ≡ write (set d at (figure (n / 10000))) (at + bool_byte t) (four_figures (n % 10000))
          → Wrote d e at (decimal n) (at + bool_byte t + 4)
      go true t stored =
          let five = decimal-five n (leb-true 10000 n t) k in
          let long = ap length five in
          record {
            bytes =
                stored
                ∙ ap (λ (x : List ℕ). write x (at + 1) (four_figures (n % 10000))) (set-write d at (figure (n / 10000)) (omega (arith, long)))
                ∙ write_then d at (figure (n / 10000) ∷ []) (at + 1) (four_figures (n % 10000)) (omega (arith, long)) refl
                ∙ ap (write d at) (sym five);
            next = omega (arith, long);
          }
      go false t stored =
          let few : n < 10000 = leb-false 10000 n t in
          let four : decimal n ≡ four_figures (n % 10000) = decimal-four n h few ∙ ap four_figures (omega arith) in
          let long = ap length four in
          record {
            bytes =
                stored
                ∙ ap (λ (r : ℕ). write (set d at (figure (n / 10000))) r (four_figures (n % 10000))) (add-zero at)
                ∙ write-over d at (figure (n / 10000)) _ _
                ∙ ap (write d at) (sym four);
            next = omega (arith, long);
          }
