-- Laws of literals and their five bytes, for a form in general.
-- In order: a literal's fields and bytes; what three fields spell, and the fields of what is spelled; five bytes and the
-- fields in them; decoding in a form, from bytes to a literal and back; fields that fit two bytes in a form. Assumes nothing.
use Prim.Native.Nat.{ℕ, zero, suc, ◌+◌, ◌≤◌, ◌<◌}
use native.Mathlib.Omega.{arith}
use mathlib.Core.Bool.{Bool, true, false, cond, ◌&&◌, true≢false}
use mathlib.Core.List.{List, [], ◌∷◌, ◌++◌}
use mathlib.Core.Path.{◌≡◌, refl, sym, ap, ap₂, ◌∙◌}
use lib.Dec.{T, leb, eqb, leb→le}
use lib.Ieee.Bits.{is_true}
use lib.Ieee.Fits.{and_l, and_r}
use lib.ListN.{length, get_or, take}
use borrow.Author.Tests.{eqb-true, ne_eqb, le-leb, lt-leb}
use Rattle.buffer.specs.Bytes.{Bytes, two_bytes, number_at}
use Rattle.buffer.specs.Write.{write}
use Rattle.buffer.proofs.Laws.Write.{write-write}
use Rattle.buffer.proofs.Laws.Bytes.{bytes-cons, bytes-append, bytes-two_bytes, number-two_bytes, two_bytes-number}
use Rattle.literal.specs.declared.Limits.{Limits}
use Rattle.literal.specs.declared.Tag.{Tag}
use Rattle.literal.specs.declared.SignedAtom.{SignedAtom}
use Rattle.literal.specs.declared.SignedAtom.TheVariants.{Positive, Negative}
use Rattle.literal.specs.declared.Literal.{Literal}
use Rattle.literal.specs.declared.Literal.TheVariants.{Signed, Defeated, Derived, RuleDefeated}
use Rattle.literal.specs.Literal.{Decoded, Valid, Wrong, atom_number, kind, tag_field, atom_field, encoded, in_range, ranged, most_kind, takes, negated_kind, signed_atom, spelled, within, decoded}
use Rattle.literal.specs.Code.{is_valid}

-- the largest kind
pub kind-most : (l : Literal) → kind l ≤ 6
unfolding kind
kind-most (Signed (Positive a)) = omega arith
kind-most (Signed (Negative a)) = omega arith
kind-most (Defeated t (Positive a)) = omega arith
kind-most (Defeated t (Negative a)) = omega arith
kind-most (Derived t (Positive a)) = omega arith
kind-most (Derived t (Negative a)) = omega arith
kind-most (RuleDefeated n) = omega arith

-- a literal has five bytes
pub length-encoded : (l : Literal) → length (encoded l) ≡ 5
unfolding encoded
length-encoded l = refl

-- a literal's tag and its atom or rule number fit two bytes each
abbrev pub Fits : Literal → Type 0
Fits l = (tag_field l < 65536) × (atom_field l < 65536)

-- its five bytes are bytes where they do
pub bytes-encoded : (l : Literal) → Fits l → Bytes (encoded l)
unfolding encoded
bytes-encoded l fit =
    bytes-cons (two_bytes (tag_field l) ++ two_bytes (atom_field l)) (omega (arith, kind-most l))
    (bytes-append (two_bytes (tag_field l)) (two_bytes (atom_field l)) (bytes-two_bytes (tag_field l) fit.0)
    (bytes-two_bytes (atom_field l) fit.1))

-- and they do where its bytes are bytes, whatever stands behind them
pub encoded-fits : (l : Literal) (rest : List ℕ) → Bytes (encoded l ++ rest) → Fits l
unfolding encoded
encoded-fits l rest bytes = (omega (arith, bytes 1), omega (arith, bytes 3))

-- the fields written one behind the other are the literal's bytes written
pub write-fields :
    (d : List ℕ) (at : ℕ) (l : Literal) →
    at ≤ length d →
    write (write (write d at (kind l ∷ [])) (at + 1) (two_bytes (tag_field l))) (at + 3) (two_bytes (atom_field l)) ≡
    write d at (encoded l)
unfolding encoded
write-fields d at l h =
    ap (λ (w : List ℕ). write w (at + 3) (two_bytes (atom_field l)))
    (write-write d at (kind l ∷ []) h (two_bytes (tag_field l)))
    ∙ write-write d at (kind l ∷ two_bytes (tag_field l)) h (two_bytes (atom_field l))

-- a literal's fields spell it
pub spelled-fields : (l : Literal) → spelled (kind l) (tag_field l) (atom_field l) ≡ Valid l
unfolding spelled kind tag_field atom_field signed_atom negated_kind
spelled-fields (Signed (Positive a)) = refl
spelled-fields (Signed (Negative a)) = refl
spelled-fields (Defeated t (Positive a)) = refl
spelled-fields (Defeated t (Negative a)) = refl
spelled-fields (Derived t (Positive a)) = refl
spelled-fields (Derived t (Negative a)) = refl
spelled-fields (RuleDefeated n) = refl

-- three fields are those of a literal
pub record Fields (k t a : ℕ) (l : Literal) : Type 0 where
  pub of-kind : k ≡ kind l
  pub of-tag : t ≡ tag_field l
  pub of-atom : a ≡ atom_field l

-- what is spelled is one literal
valid-injective : {l m : Literal} → Valid l ≡ Valid m → l ≡ m
valid-injective e = cc

-- or none
never-valid : {l : Literal} → Wrong ≡ Valid l → ⊥
never-valid e = let z : ◌≡◌ {A = ℕ} 0 1 = cc in omega (arith, z)

-- two literals of the same fields are one
pub fields-injective : (l m : Literal) → Fields (kind l) (tag_field l) (atom_field l) m → l ≡ m
fields-injective l m f =
    valid-injective (sym (spelled-fields l) ∙ rw (f.of-kind, f.of-tag, f.of-atom) (spelled-fields m))

-- a literal's fields are those of the literal that it is
fields-valid : (m l : Literal) → Valid m ≡ Valid l → Fields (kind m) (tag_field m) (atom_field m) l
fields-valid m l e =
    let p = valid-injective e in
    record { of-kind = ap kind p; of-tag = ap tag_field p; of-atom = ap atom_field p }

-- the same where the tag field has to be 0
fields-untagged :
    (t : ℕ) (m l : Literal) →
    tag_field m ≡ 0 →
    cond (eqb t 0) (Valid m) Wrong ≡ Valid l →
    Fields (kind m) t (atom_field m) l
fields-untagged t m l h e = go (eqb t 0) refl e
  where
    go : (b : Bool) → eqb t 0 ≡ b → cond b (Valid m) Wrong ≡ Valid l → Fields (kind m) t (atom_field m) l
    go true q e = rw (eqb-true t 0 q, ← h) (fields-valid m l e)
    go false q e = absurd (never-valid e)

-- no literal has a kind above 6
pub spelled-above : (k t a : ℕ) → 6 < k → spelled k t a ≡ Wrong
unfolding spelled
spelled-above k t a h =
    simp (lt-leb k 1 (omega arith), lt-leb k 3 (omega arith), lt-leb k 5 (omega arith), ne_eqb k 6 (omega arith))

-- what is spelled has the fields that spell it
pub fields-spelled : (k t a : ℕ) (l : Literal) → spelled k t a ≡ Valid l → Fields k t a l
unfolding spelled kind tag_field atom_field signed_atom negated_kind
fields-spelled zero t a l e = fields-untagged t (Signed (Positive (record { 0 = a }))) l refl e
fields-spelled (suc zero) t a l e = fields-untagged t (Signed (Negative (record { 0 = a }))) l refl e
fields-spelled (suc (suc zero)) t a l e =
    fields-valid (Defeated (record { 0 = t }) (Positive (record { 0 = a }))) l e
fields-spelled (suc (suc (suc zero))) t a l e =
    fields-valid (Defeated (record { 0 = t }) (Negative (record { 0 = a }))) l e
fields-spelled (suc (suc (suc (suc zero)))) t a l e =
    fields-valid (Derived (record { 0 = t }) (Positive (record { 0 = a }))) l e
fields-spelled (suc (suc (suc (suc (suc zero))))) t a l e =
    fields-valid (Derived (record { 0 = t }) (Negative (record { 0 = a }))) l e
fields-spelled (suc (suc (suc (suc (suc (suc zero)))))) t a l e =
    fields-untagged t (RuleDefeated (record { 0 = a })) l refl e
fields-spelled (suc (suc (suc (suc (suc (suc (suc k))))))) t a l e =
    absurd (never-valid (sym (spelled-above (suc (suc (suc (suc (suc (suc (suc k))))))) t a (omega arith)) ∙ e))

-- five bytes are the fields that they spell
pub take-five :
    (bs : List ℕ) →
    Bytes bs →
    5 ≤ length bs →
    take 5 bs ≡ get_or bs 0 0 ∷ (two_bytes (number_at bs 1) ++ two_bytes (number_at bs 3))
take-five [] h n = absurd (omega arith)
take-five (a ∷ []) h n = absurd (omega arith)
take-five (a ∷ b ∷ []) h n = absurd (omega arith)
take-five (a ∷ b ∷ c ∷ []) h n = absurd (omega arith)
take-five (a ∷ b ∷ c ∷ d ∷ []) h n = absurd (omega arith)
take-five (a ∷ b ∷ c ∷ d ∷ e ∷ bs) h n =
    ap₂ (λ (x y : List ℕ). a ∷ (x ++ y)) (sym (two_bytes-number b c (h 2))) (sym (two_bytes-number d e (h 4)))

-- a literal's bytes spell it, whatever stands behind them
spelled-encoded :
    (l : Literal) (rest : List ℕ) →
    spelled (get_or (encoded l ++ rest) 0 0) (number_at (encoded l ++ rest) 1) (number_at (encoded l ++ rest) 3) ≡ Valid l
unfolding encoded
spelled-encoded l rest = rw (number-two_bytes (tag_field l), number-two_bytes (atom_field l)) (spelled-fields l)

-- the figures of a form's literals fit two bytes each, that of rule numbers where its kinds have them
pub record TwoBytes (F : Limits) : Type 0 where
  pub atoms : F.atoms < 65536
  pub tags : F.tags < 65536
  pub numbers : 6 ≤ most_kind F.kinds → F.numbers < 65536

-- what is in range is from 1 to the largest value
pub in-range : (most n : ℕ) → T (in_range most n) → (1 ≤ n) × (n ≤ most)
in-range most n h = (leb→le 1 n (and_l (leb 1 n) (leb n most) h), leb→le n most (and_r (leb 1 n) (leb n most) h))

module _ (F : Limits) where
  -- a literal that the form takes is decoded from its bytes
  pub decoded-encoded : (l : Literal) (rest : List ℕ) → T (takes F l) → decoded F (encoded l ++ rest) ≡ Valid l
  unfolding decoded within
  decoded-encoded l rest h = rw (spelled-encoded l rest, is_true (takes F l) h)

  -- what is left of a spelled literal by the limits was spelled, and the form takes it
  valid-within : (d : Decoded) (l : Literal) → within F d ≡ Valid l → (d ≡ Valid l) × T (takes F l)
  unfolding within
  valid-within (Valid m) l e = go (takes F m) refl e
    where
      go : (b : Bool) → takes F m ≡ b → cond b (Valid m) Wrong ≡ Valid l → (Valid m ≡ Valid l) × T (takes F l)
      go true q e = (e, rw (← valid-injective e) (rw q tt))
      go false q e = absurd (never-valid e)
  valid-within Wrong l e = absurd (never-valid e)

  -- what is decoded to a literal has its fields
  pub decoded-fields : (bs : List ℕ) (l : Literal) → decoded F bs ≡ Valid l → Fields (get_or bs 0 0) (number_at bs 1) (number_at bs 3) l
  unfolding decoded
  decoded-fields bs l e =
      let v = valid-within (spelled (get_or bs 0 0) (number_at bs 1) (number_at bs 3)) l e in
      fields-spelled (get_or bs 0 0) (number_at bs 1) (number_at bs 3) l v.0

  -- the first byte of what is decoded to a literal is its kind
  pub decoded-kind : (bs : List ℕ) (l : Literal) → decoded F bs ≡ Valid l → get_or bs 0 0 ≡ kind l
  decoded-kind bs l e = (decoded-fields bs l e).of-kind

  -- bytes that are decoded to a literal are its bytes, and the form takes it
  pub encoded-decoded :
      (bs : List ℕ) (l : Literal) →
      Bytes bs →
      5 ≤ length bs →
      decoded F bs ≡ Valid l →
      (take 5 bs ≡ encoded l) × T (takes F l)
  unfolding decoded encoded
  encoded-decoded bs l h n e =
      let v = valid-within (spelled (get_or bs 0 0) (number_at bs 1) (number_at bs 3)) l e in
      let f = fields-spelled (get_or bs 0 0) (number_at bs 1) (number_at bs 3) l v.0 in
      (take-five bs h n ∙ rw (f.of-kind, f.of-tag, f.of-atom), v.1)

  -- what the form takes is of its kinds, and in its ranges
  pub takes-kind : (l : Literal) → T (takes F l) → kind l ≤ most_kind F.kinds
  unfolding takes
  takes-kind l h = leb→le (kind l) (most_kind F.kinds) (and_l (leb (kind l) (most_kind F.kinds)) (ranged F l) h)

  pub takes-ranged : (l : Literal) → T (takes F l) → T (ranged F l)
  unfolding takes
  takes-ranged l h = and_r (leb (kind l) (most_kind F.kinds)) (ranged F l) h

  -- what is of its kinds and in its ranges, the form takes
  pub takes-both : (l : Literal) → kind l ≤ most_kind F.kinds → T (ranged F l) → T (takes F l)
  unfolding takes
  takes-both l k h = rw (le-leb (kind l) (most_kind F.kinds) k) h

  -- the fields of a literal that the form takes fit two bytes where the form's figures do
  module _ (w : TwoBytes F) where
    tagged : (t : Tag) (a : SignedAtom) → T (in_range F.tags t.0 && in_range F.atoms (atom_number a)) → (t.0 < 65536) × (atom_number a < 65536)
    tagged t a h = (
      omega (arith, (in-range F.tags t.0 (and_l (in_range F.tags t.0) (in_range F.atoms (atom_number a)) h)).1, w.tags),
      omega (arith, (in-range F.atoms (atom_number a) (and_r (in_range F.tags t.0) (in_range F.atoms (atom_number a)) h)).1, w.atoms),
    )

    ranged-fits : (l : Literal) → kind l ≤ most_kind F.kinds → T (ranged F l) → Fits l
    unfolding ranged tag_field atom_field kind
    ranged-fits (Signed a) k h = (omega arith, omega (arith, (in-range F.atoms (atom_number a) h).1, w.atoms))
    ranged-fits (Defeated t a) k h = tagged t a h
    ranged-fits (Derived t a) k h = tagged t a h
    ranged-fits (RuleDefeated n) k h = (omega arith, omega (arith, (in-range F.numbers n.0 h).1, w.numbers k))

    pub takes-fits : (l : Literal) → T (takes F l) → Fits l
    takes-fits l h = ranged-fits l (takes-kind l h) (takes-ranged l h)

-- what is right is a literal, and what is not right is none
pub valid-some : (d : Decoded) → is_valid d ≡ true → (l : Literal) × (d ≡ Valid l)
unfolding is_valid
valid-some (Valid l) e = (l, refl)
valid-some Wrong e = absurd (true≢false (sym e))

pub valid-none : (d : Decoded) → is_valid d ≡ false → d ≡ Wrong
unfolding is_valid
valid-none (Valid l) e = absurd (true≢false e)
valid-none Wrong e = refl
