-- Laws of keys as bytes.
-- In order: the length of a key's bytes; three fields written one behind the other; the first of the keys that are left; keys
-- that fit five bytes; a literal's key has its bytes, and fits.
-- Assumes nothing.
use Prim.Native.Nat.{ℕ, ◌+◌, ◌*◌, ◌/◌, ◌%◌, ◌<◌, ◌≤◌}
use native.Mathlib.Numerals.{add-one}
use native.Mathlib.Omega.{arith}
use mathlib.Core.Path.{◌≡◌, refl, ◌∙◌, ap, subst}
use mathlib.Core.List.{List, [], ◌∷◌, ◌++◌}
use lib.Dec.{T, eqb, eqb→eq}
use lib.ListN.{length, get_or, drop, drop_of_length-le}
use lib.Seq.{drop-cons}
use Rattle.buffer.specs.Bytes.{two_bytes}
use Rattle.buffer.specs.Write.{write}
use Rattle.buffer.proofs.Laws.Next.{write_then}
use Rattle.literal.specs.declared.Literal.{Literal}
use Rattle.literal.specs.Literal.{kind, tag_field, atom_field, encoded}
use Rattle.literal.specs.Order.{key}
use Rattle.literal.proofs.Laws.Literal.{Fits, kind-most}
use Rattle.keys.specs.Keys.{key_in, sorted_keys}
use Rattle.keys.specs.Code.{bytes_of, key_bytes, Fitting}
use Rattle.keys.proofs.Laws.Members.{either, in-at}
use Rattle.keys.proofs.Laws.Sorted.{in-sorted}

-- a key has five bytes
pub length-bytes_of : (k : ℕ) → length (bytes_of k) ≡ 5
unfolding bytes_of
length-bytes_of k = refl

-- kind, tag and atom, written one behind the other
pub write-fields :
    (d : List ℕ) (at k : ℕ) →
    at + 5 ≤ length d →
    write (write (write d at (k / 4294967296 ∷ [])) (at + 1) (two_bytes (k / 65536 % 65536))) (at + 3) (two_bytes (k % 65536)) ≡
    write d at (bytes_of k)
unfolding bytes_of
write-fields d at k h =
    let top = k / 4294967296 ∷ [] in
    let tag = two_bytes (k / 65536 % 65536) in
    ap (λ (e : List ℕ). write e (at + 3) (two_bytes (k % 65536))) (write_then d at top (at + 1) tag (omega arith) refl)
    ∙ write_then d at (top ++ tag) (at + 3) (two_bytes (k % 65536)) (omega arith) refl

module _ (ks : List ℕ) (i : ℕ) where
  -- the first of the keys that are left
  pub keys-first : i < length ks → key_bytes (drop i ks) ≡ bytes_of (get_or ks i 0) ++ key_bytes (drop (i + 1) ks)
  unfolding key_bytes
  keys-first h = rw add-one (ap key_bytes (drop-cons ks i 0 h))

  -- none is left
  pub keys_none : length ks ≤ i → key_bytes (drop i ks) ≡ []
  unfolding key_bytes
  keys_none h = ap key_bytes (drop_of_length-le ks {i = i} h)

-- a key at a place fits five bytes where all keys do
pub fitting-at : (ks : List ℕ) (i : ℕ) → Fitting ks → i < length ks → get_or ks i 0 < 1099511627776
fitting-at ks i f h = f (get_or ks i 0) (in-at ks i h)

-- keys that fit, made and sorted
pub fitting-nil : Fitting []
fitting-nil k t = absurd t

pub fitting-cons : (k : ℕ) (ks : List ℕ) → k < 1099511627776 → Fitting ks → Fitting (k ∷ ks)
fitting-cons k ks h f m t = either (eqb m k) (key_in m ks) t (λ e. omega (arith, eqb→eq m k e)) (f m)

pub fitting-sorted : (ks : List ℕ) → Fitting ks → Fitting (sorted_keys ks)
fitting-sorted ks f k t = f k (subst T (in-sorted k ks) t)

module _ (l : Literal) (fit : Fits l) where
  -- a literal's key has the bytes of the literal
  pub bytes_of-key : bytes_of (key l) ≡ encoded l
  unfolding bytes_of key encoded
  bytes_of-key =
      let top : ((kind l * 65536 + tag_field l) * 65536 + atom_field l) / 4294967296 ≡ kind l = omega (arith, fit.0, fit.1) in
      let tag : ((kind l * 65536 + tag_field l) * 65536 + atom_field l) / 65536 % 65536 ≡ tag_field l = omega (arith, fit.0, fit.1) in
      let atom : ((kind l * 65536 + tag_field l) * 65536 + atom_field l) % 65536 ≡ atom_field l = omega (arith, fit.1) in
      rw (top, tag, atom)

  -- and fits five bytes
  pub key_fits : key l < 1099511627776
  unfolding key
  key_fits = omega (arith, kind-most l, fit.0, fit.1)
