-- Laws of fields: their lengths, a field written byte by byte, and one stored as eight bytes.
-- Assumes nothing.
use Prim.Native.Nat.{ℕ, ◌+◌, ◌*◌, ◌/◌, ◌%◌, ◌≤◌, ◌<◌}
use native.Mathlib.Omega.{arith}
use mathlib.Core.Path.{◌≡◌, refl, sym, ◌∙◌, ap, subst}
use mathlib.Core.Bool.{Bool, true, false}
use mathlib.Core.List.{List, [], ◌∷◌}
use lib.ListN.{length}
use Rattle.buffer.specs.Bytes.{Bytes, eight_bytes}
use Rattle.buffer.specs.Write.{write, Wrote, Begun}
use Rattle.buffer.proofs.Laws.Begun.{begun_more}
use Rattle.buffer.proofs.Laws.Bytes.{bytes-cons}
use Rattle.buffer.proofs.Laws.Writing.{wrote, wrote_then}
use Rattle.decimal.specs.Decimal.{decimal}
use Rattle.decimal.specs.Code.{Counted, joined}
use Rattle.decimal.proofs.Laws.Decimal.{length_most}
use Rattle.decimal.proofs.Laws.Joined.{behind_joined, eight-joined, joined-less, decimal-bytes}
use Rattle.aspif_text.specs.Text.{blank, minus, field}
use Rattle.aspif_rule.specs.Code.{Long}

pub length-positive : (b : Bool) (n : ℕ) → b ≡ false → length (field b n) ≡ 1 + length (decimal n)
unfolding field
length-positive b n e = rw e (omega arith)

pub length-naf : (b : Bool) (n : ℕ) → b ≡ true → length (field b n) ≡ 2 + length (decimal n)
unfolding field
length-naf b n e = rw e (omega arith)

-- a field that was measured
pub measured : (n r : ℕ) → Counted n r → Long (1 + r) (field false n) 11
measured n r w = record { long = omega (arith, w.figures, length-positive false n refl); short = omega (arith, w.most) }

-- there is room for its first byte
pub field_room : (b : Bool) (n at room : ℕ) → at + length (field b n) ≤ room → at + 1 ≤ room
field_room false n at room h = omega (arith, length-positive false n refl)
field_room true n at room h = omega (arith, length-naf true n refl)

-- a blank, then the decimal
pub positive-wrote : {d e f : List ℕ} (b : Bool) (n at r : ℕ) → b ≡ false → at + length (field b n) ≤ length d → e ≡ write d at (blank ∷ [])
    → Wrote e f (at + 1) (decimal n) r → Wrote d f at (field b n) r
unfolding field
positive-wrote {d} {e} {f} b n at r false-b h first rest =
    subst (λ (c : Bool). Wrote d f at (field c n) r) (sym false-b)
    (wrote_then (omega (arith, field_room b n at (length d) h)) (wrote at (blank ∷ []) (at + 1) first refl) rest)

-- a blank and a minus, then the decimal
pub naf-wrote : {d e f g : List ℕ} (b : Bool) (n at r : ℕ) → b ≡ true → at + length (field b n) ≤ length d → e ≡ write d at (blank ∷ [])
    → f ≡ write e (at + 1) (minus ∷ []) → Wrote f g (at + 2) (decimal n) r → Wrote d g at (field b n) r
unfolding field
naf-wrote {d} {e} {f} {g} b n at r true-b h first second rest =
    let long = field_room b n at (length d) h in
    let sign = wrote_then {d = d} (omega (arith, long)) (wrote at (blank ∷ []) (at + 1) first refl) (wrote {d = e} (at + 1) (minus ∷ []) (at + 2) second (omega arith)) in
    subst (λ (c : Bool). Wrote d g at (field c n) r) (sym true-b) (wrote_then (omega (arith, long)) sign rest)

-- a field stored as eight bytes: its decimal is packed in one number, with the count of its figures
module _ (n packed : ℕ) (few : n < 1000000) (is : packed ≡ joined (decimal n) + 72057594037927936 * length (decimal n)) where
  most-six : length (decimal n) ≤ 6
  most-six = length_most 5 n (omega arith)

  low : joined (decimal n) < 281474976710656
  low = joined-less (decimal n) (decimal-bytes n) most-six

  -- its figures, and how many there are
  pub figures-low : packed % 72057594037927936 < 281474976710656
  figures-low = omega (arith, low, is)

  figures-are : packed % 72057594037927936 ≡ joined (decimal n)
  figures-are = omega (arith, low, is)

  pub many-are : packed / 72057594037927936 ≡ length (decimal n)
  many-are = omega (arith, low, is)

  pub many-few : packed / 72057594037927936 ≤ 6
  many-few = omega (arith, many-are, most-six)

  -- eight bytes that start with a text, stored
  stored : {d f : List ℕ} (at r : ℕ) (bs : List ℕ) (v : ℕ) → Bytes bs → length bs ≤ 8 → at + 12 ≤ length d → v ≡ joined bs → r ≡ at + length bs
      → f ≡ write d at (eight_bytes v) → Begun d f at bs r
  stored {d} {f} at r bs v bytes short room e ends written =
      let eight = ap eight_bytes e ∙ eight-joined bs bytes short in
      subst (Begun d f at bs) (sym ends)
      (begun_more at bs (behind_joined bs) (omega (arith, ap length (sym eight))) (written ∙ ap (write d at) eight))

  pub positive-begun : {d f : List ℕ} (b : Bool) (at : ℕ) → b ≡ false → at + 12 ≤ length d
      → f ≡ write d at (eight_bytes (packed % 72057594037927936 * 256 + 0x20)) → Begun d f at (field b n) (at + 1 + packed / 72057594037927936)
  unfolding field joined
  positive-begun {d} {f} b at false-b room written =
      subst (λ (c : Bool). Begun d f at (field c n) (at + 1 + packed / 72057594037927936)) (sym false-b)
      (stored at _ (blank ∷ decimal n) _ (bytes-cons (decimal n) (omega arith) (decimal-bytes n)) (omega (arith, most-six)) room
      (omega (arith, figures-are)) (omega (arith, many-are)) written)

  pub naf-begun : {d f : List ℕ} (b : Bool) (at : ℕ) → b ≡ true → at + 12 ≤ length d
      → f ≡ write d at (eight_bytes (packed % 72057594037927936 * 65536 + 0x2D20)) → Begun d f at (field b n) (at + 2 + packed / 72057594037927936)
  unfolding field joined
  naf-begun {d} {f} b at true-b room written =
      subst (λ (c : Bool). Begun d f at (field c n) (at + 2 + packed / 72057594037927936)) (sym true-b)
      (stored at _ (blank ∷ minus ∷ decimal n) _ (bytes-cons (minus ∷ decimal n) (omega arith) (bytes-cons (decimal n) (omega arith) (decimal-bytes n)))
      (omega (arith, most-six)) room (omega (arith, figures-are)) (omega (arith, many-are)) written)

-- no field has more than twelve bytes
pub field-short : (b : Bool) (n : ℕ) → n < 4294967296 → length (field b n) ≤ 12
field-short false n h = omega (arith, length-positive false n refl, length_most 9 n (omega arith))
field-short true n h = omega (arith, length-naf true n refl, length_most 9 n (omega arith))
