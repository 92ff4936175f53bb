-- Laws of the order of literals: byte strings compare as the numbers that they spell.
-- In order: the number of a byte string, and the order of byte strings by it; keys of five bytes; keys of literals; keys
-- of what a form takes.
-- Assumes nothing.
use Prim.Native.Nat.{ℕ, ◌+◌, ◌*◌, ◌/◌, ◌%◌, ◌^◌, ◌≤◌, ◌<◌}
use native.Mathlib.Nat.{mul-le-mul_right, pow-succ'}
use native.Mathlib.Omega.{arith}
use mathlib.Core.Bool.{Bool, true, false, ◌&&◌, ◌||◌}
use mathlib.Core.List.{List, [], ◌∷◌, ◌++◌}
use mathlib.Core.Path.{◌≡◌, refl, sym, ap, ◌∙◌}
use lib.Arith.{digits_lt, digits_div, digits_mod}
use lib.Dec.{T, ltb, leb, eqb, leb→le}
use lib.Ieee.Fits.{and_l, and_r}
use lib.ListN.{length, take, drop, take-append-drop}
use lib.Seq.{length-take-le}
use borrow.Author.Tests.{ltb-true, ltb-false, eqb-true, eqb-false, lt-ltb, le-ltb}
use Rattle.buffer.specs.Bytes.{Bytes}
use Rattle.buffer.proofs.Laws.Bytes.{bytes-tail, bytes_take, number-two_bytes}
use Rattle.literal.specs.declared.Limits.{Limits}
use Rattle.literal.specs.declared.Literal.{Literal}
use Rattle.literal.specs.declared.Literal.TheVariants.{Signed, Defeated, Derived, RuleDefeated}
use Rattle.literal.specs.Literal.{Valid, atom_number, kind, tag_field, atom_field, encoded, in_range, ranged, takes, decoded}
use Rattle.literal.specs.Order.{bytes_before, key, before}
use Rattle.literal.specs.Code.{key_at, key_room}
use Rattle.literal.proofs.Laws.Literal.{Fits, bytes-encoded, fields-injective, encoded-decoded, takes-ranged}

-- the number that a byte string spells, the highest byte first
value : List ℕ → ℕ
value [] = 0
value (b ∷ bs) = b * 256 ^ length bs + value bs

-- a byte string's number is below that of a 1 in front of as many zeros
value-lt : (bs : List ℕ) → Bytes bs → value bs < 256 ^ length bs
unfolding value
value-lt [] h = omega arith
value-lt (b ∷ bs) h = rw (pow-succ' 256 (length bs)) (digits_lt (h 0) (value-lt bs (bytes-tail b bs h)))

-- the same summand on both sides decides nothing
ltb-add : (k n m : ℕ) → ltb (k + n) (k + m) ≡ ltb n m
ltb-add k n m = go (ltb n m) refl
  where
    go : (x : Bool) → ltb n m ≡ x → ltb (k + n) (k + m) ≡ x
    go true p = lt-ltb (k + n) (k + m) (omega (arith, ltb-true n m p))
    go false p = le-ltb (k + n) (k + m) (omega (arith, ltb-false n m p))

-- the highest digit decides, and the rest where it is the same
ltb-digit :
    (p b c n m : ℕ) →
    n < p →
    m < p →
    (ltb b c || eqb b c && ltb n m) ≡ ltb (b * p + n) (c * p + m)
ltb-digit p b c n m hn hm = go (ltb b c) refl (eqb b c) refl
  where
    go : (x : Bool) → ltb b c ≡ x → (y : Bool) → eqb b c ≡ y → (x || y && ltb n m) ≡ ltb (b * p + n) (c * p + m)
    go true s y t = sym (lt-ltb (b * p + n) (c * p + m) (omega (arith, mul-le-mul_right p (ltb-true b c s))))
    go false s true t = rw (eqb-true b c t) (sym (ltb-add (c * p) n m))
    go false s false t =
        let above : c < b = omega (arith, ltb-false b c s, eqb-false b c t) in
        sym (le-ltb (b * p + n) (c * p + m) (omega (arith, mul-le-mul_right p above)))

-- byte strings of one length compare as their numbers
before-value :
    (bs cs : List ℕ) →
    Bytes bs →
    Bytes cs →
    length bs ≡ length cs →
    bytes_before bs cs ≡ ltb (value bs) (value cs)
unfolding bytes_before value
before-value [] [] h k n = refl
before-value [] (c ∷ cs) h k n = absurd (omega arith)
before-value (b ∷ bs) [] h k n = absurd (omega arith)
before-value (b ∷ bs) (c ∷ cs) h k n =
    let e : length bs ≡ length cs = omega arith in
    rw (before-value bs cs (bytes-tail b bs h) (bytes-tail c cs k) e, e)
    (ltb-digit (256 ^ length cs) b c (value bs) (value cs) (rw e at (value-lt bs (bytes-tail b bs h)))
    (value-lt cs (bytes-tail c cs k)))

-- the key of five bytes is their number
key_at-value : (bs : List ℕ) → 5 ≤ length bs → key_at bs ≡ value (take 5 bs)
unfolding key_at value
key_at-value [] n = absurd (omega arith)
key_at-value (a ∷ []) n = absurd (omega arith)
key_at-value (a ∷ b ∷ []) n = absurd (omega arith)
key_at-value (a ∷ b ∷ c ∷ []) n = absurd (omega arith)
key_at-value (a ∷ b ∷ c ∷ d ∷ []) n = absurd (omega arith)
key_at-value (a ∷ b ∷ c ∷ d ∷ e ∷ bs) n = omega arith

-- and so it is below that of a 1 in front of five zeros
pub key_at-lt : (bs : List ℕ) → Bytes bs → key_at bs < key_room
unfolding key_at
key_at-lt bs h = omega (arith, h 0, h 1, h 2, h 3, h 4)

-- five bytes compare as their keys
pub bytes_before-key_at :
    (bs cs : List ℕ) →
    Bytes bs →
    Bytes cs →
    5 ≤ length bs →
    5 ≤ length cs →
    bytes_before (take 5 bs) (take 5 cs) ≡ ltb (key_at bs) (key_at cs)
bytes_before-key_at bs cs h k n m =
    rw (key_at-value bs n, key_at-value cs m)
    (before-value (take 5 bs) (take 5 cs) (bytes_take 5 bs h) (bytes_take 5 cs k)
    (length-take-le 5 bs n ∙ sym (length-take-le 5 cs m)))

-- a literal's bytes spell its key, whatever stands behind them
pub key_at-encoded : (l : Literal) (rest : List ℕ) → key_at (encoded l ++ rest) ≡ key l
unfolding key_at key encoded
key_at-encoded l rest = rw (number-two_bytes (tag_field l), number-two_bytes (atom_field l))

-- a number's last digit, and what stands before it
digits-injective :
    (c q r p s : ℕ) →
    r < c →
    s < c →
    q * c + r ≡ p * c + s →
    (q ≡ p) × (r ≡ s)
digits-injective c q r p s hr hs e = (
  sym (digits_div q hr) ∙ ap (λ (n : ℕ). n / c) e ∙ digits_div p hs,
  sym (digits_mod q hr) ∙ ap (λ (n : ℕ). n % c) e ∙ digits_mod p hs,
)

module _ (l m : Literal) (fl : Fits l) (fm : Fits m) where
  -- literals stand in the order of their bytes
  pub before-bytes : before l m ≡ bytes_before (encoded l) (encoded m)
  unfolding before encoded
  before-bytes =
      rw (← key_at-encoded l [], ← key_at-encoded m [])
      (sym (bytes_before-key_at (encoded l) (encoded m) (bytes-encoded l fl) (bytes-encoded m fm)
      (omega arith) (omega arith)))

  -- no two literals have the same key
  pub key-injective : key l ≡ key m → l ≡ m
  unfolding key
  key-injective e =
      let top : Literal → ℕ = λ n. kind n * 65536 + tag_field n in
      let low = digits-injective 65536 (top l) (atom_field l) (top m) (atom_field m) fl.1 fm.1 e in
      let high = digits-injective 65536 (kind l) (tag_field l) (kind m) (tag_field m) fl.0 fm.0 low.0 in
      fields-injective l m (record { of-kind = high.0; of-tag = high.1; of-atom = low.1 })

-- what is in range is not 0
range-positive : (most n : ℕ) → T (in_range most n) → 0 < n
range-positive most n h = leb→le 1 n (and_l (leb 1 n) (leb n most) h)

module _ (F : Limits) where
  -- atoms and rule numbers start at 1
  ranged-positive : (l : Literal) → T (ranged F l) → 0 < atom_field l
  unfolding ranged atom_field
  ranged-positive (Signed a) h = range-positive F.atoms (atom_number a) h
  ranged-positive (Defeated t a) h =
      range-positive F.atoms (atom_number a) (and_r (in_range F.tags t.0) (in_range F.atoms (atom_number a)) h)
  ranged-positive (Derived t a) h =
      range-positive F.atoms (atom_number a) (and_r (in_range F.tags t.0) (in_range F.atoms (atom_number a)) h)
  ranged-positive (RuleDefeated n) h = range-positive F.numbers n.0 h

  -- so that no literal of a form has the key 0
  pub key-positive : (l : Literal) → T (takes F l) → 0 < key l
  unfolding key
  key-positive l h = omega (arith, ranged-positive l (takes-ranged F l h))

  -- five bytes that are decoded to a literal spell its key
  pub key_at-decoded : (bs : List ℕ) (l : Literal) → Bytes bs → 5 ≤ length bs → decoded F bs ≡ Valid l → key_at bs ≡ key l
  key_at-decoded bs l h n e =
      ap key_at (sym (take-append-drop 5 bs)) ∙ rw (encoded-decoded F bs l h n e).0 (key_at-encoded l (drop 5 bs))
