-- Bytes joined in one number, the lowest first: they are its lowest bytes, and no more of it is left.
-- In order: the lowest bytes of a number, one by one; those of joined bytes; a number of six bytes at most is low; a decimal's bytes.
-- Assumes nothing.
use Prim.Native.Nat.{ℕ, zero, suc, ◌+◌, ◌-◌, ◌*◌, ◌/◌, ◌%◌, ◌≤◌, ◌<◌}
use native.Mathlib.Omega.{arith}
use mathlib.Core.Path.{◌≡◌, refl, sym, ◌∙◌, ap, ap₂, subst}
use mathlib.Core.List.{List, [], ◌∷◌, ◌++◌}
use lib.ListN.{length}
use Rattle.buffer.specs.Bytes.{Bytes, eight_bytes}
use Rattle.buffer.proofs.Laws.Bytes.{bytes-cons, bytes-append}
use Rattle.decimal.specs.Decimal.{figure, decimal}
use Rattle.decimal.specs.Code.{joined}
use Rattle.decimal.proofs.Laws.Decimal.{by-tenths, decimal-less, decimal-more}

-- k bytes of v
low_bytes : ℕ → ℕ → List ℕ
low_bytes zero v = []
low_bytes (suc k) v = v % 256 ∷ low_bytes k (v / 256)

same_byte : {a b : ℕ} {xs ys : List ℕ} → a ≡ b → xs ≡ ys → a ∷ xs ≡ b ∷ ys
same_byte e f = ap₂ (λ (x : ℕ) (zs : List ℕ). x ∷ zs) e f

eight-low : (v : ℕ) → eight_bytes v ≡ low_bytes 8 v
unfolding low_bytes
eight-low v =
    same_byte refl (same_byte refl (same_byte (omega arith) (same_byte (omega arith) (same_byte (omega arith) (same_byte (omega arith)
    (same_byte (omega arith) (same_byte (omega arith) refl)))))))

joined-low : (bs : List ℕ) (k : ℕ) → Bytes bs → length bs ≤ k → low_bytes k (joined bs) ≡ bs ++ low_bytes (k - length bs) 0
unfolding low_bytes joined
joined-low [] k bytes h = let e : k ≡ k - 0 = omega arith in ap (λ (j : ℕ). low_bytes j 0) e
joined-low (b ∷ bs) zero bytes h = absurd (omega arith)
joined-low (b ∷ bs) (suc k) bytes h =
    let low = bytes 0 in
    let first : (b + 256 * joined bs) % 256 ≡ b = omega (arith, low) in
    let rest : (b + 256 * joined bs) / 256 ≡ joined bs = omega (arith, low) in
    let left : k - length bs ≡ suc k - suc (length bs) = omega arith in
    same_byte first
    (ap (low_bytes k) rest ∙ joined-low bs k (λ i. bytes (suc i)) (omega arith) ∙ ap (λ (j : ℕ). bs ++ low_bytes j 0) left)

-- what stands behind the bytes in eight of them
pub behind_joined : List ℕ → List ℕ
behind_joined bs = low_bytes (8 - length bs) 0

pub eight-joined : (bs : List ℕ) → Bytes bs → length bs ≤ 8 → eight_bytes (joined bs) ≡ bs ++ behind_joined bs
unfolding behind_joined
eight-joined bs bytes h = eight-low (joined bs) ∙ joined-low bs 8 bytes h

-- as many bytes as one number has at most
most : ℕ → ℕ
most zero = 1
most (suc k) = 256 * most k

joined-below : (bs : List ℕ) (k : ℕ) → Bytes bs → length bs ≤ k → joined bs < most k
unfolding joined most
joined-below [] zero bytes h = omega arith
joined-below [] (suc k) bytes h = omega (arith, joined-below [] k bytes (omega arith))
joined-below (b ∷ bs) zero bytes h = absurd (omega arith)
joined-below (b ∷ bs) (suc k) bytes h = omega (arith, bytes 0, joined-below bs k (λ i. bytes (suc i)) (omega arith))

-- six bytes are below the seventh's place
pub joined-less : (bs : List ℕ) → Bytes bs → length bs ≤ 6 → joined bs < 281474976710656
unfolding most
joined-less bs bytes h = omega (arith, joined-below bs 6 bytes h)

-- a decimal's figures are bytes
figure-bytes : (n : ℕ) → n < 10 → Bytes (figure n ∷ [])
figure-bytes n h = bytes-cons {b = figure n} [] (omega arith) (λ i. omega arith)

pub decimal-bytes : (n : ℕ) → Bytes (decimal n)
decimal-bytes =
    by-tenths (λ n. Bytes (decimal n)) (λ n h. subst Bytes (sym (decimal-less n h)) (figure-bytes n h))
    (λ n h b. subst Bytes (sym (decimal-more n h)) (bytes-append (decimal (n / 10)) (figure (n % 10) ∷ []) b (figure-bytes (n % 10) (omega arith))))
