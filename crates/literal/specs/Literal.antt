-- A literal and its five bytes (01, "Records": kind, tag, atom), in either form.
-- In order: a literal's three fields and its bytes; signs, a literal's and a kind's; the literals that a form takes; what five bytes
-- spell in a form; opposite literals. Not here: the order of literals (`Order`), the forms' figures (`Limits`), how code asks (`Code`).
-- Assumes nothing.
use Rattle.std.specs.Prelude.{ℕ, ◌%◌, Bool, true, false, cond, ◌&&◌, List, ◌∷◌, ◌++◌, leb, eqb, get_or}
use Rattle.buffer.specs.Bytes.{two_bytes, number_at}
use Rattle.literal.specs.declared.Limits.{Limits}
use Rattle.literal.specs.declared.SignedAtom.{SignedAtom}
use Rattle.literal.specs.declared.SignedAtom.TheVariants.{Positive, Negative}
use Rattle.literal.specs.declared.Literal.{Literal}
use Rattle.literal.specs.declared.Literal.TheVariants.{Signed, Defeated, Derived, RuleDefeated}
use Rattle.literal.specs.declared.Kinds.{Kinds}
use Rattle.literal.specs.declared.Kinds.TheVariants.{SourceKinds, PlainKinds}

-- the number of the atom under the sign
abbrev pub atom_number : SignedAtom → ℕ
atom_number (Positive a) = a.0
atom_number (Negative a) = a.0

-- the first field (01: 0 an atom, 1 an explicitly negated atom; 2 and 3 the defeat mark of either, 4 and 5 the derivation mark; 6 the
-- rule-defeated mark)
unfoldable pub kind : Literal → ℕ
kind (Signed (Positive a)) = 0
kind (Signed (Negative a)) = 1
kind (Defeated t (Positive a)) = 2
kind (Defeated t (Negative a)) = 3
kind (Derived t (Positive a)) = 4
kind (Derived t (Negative a)) = 5
kind (RuleDefeated n) = 6

-- the second field: 0 where no tag is due
unfoldable pub tag_field : Literal → ℕ
tag_field (Signed a) = 0
tag_field (Defeated t a) = t.0
tag_field (Derived t a) = t.0
tag_field (RuleDefeated n) = 0

-- the third field: the atom, or the number of the rule that is defeated
unfoldable pub atom_field : Literal → ℕ
atom_field (Signed a) = atom_number a
atom_field (Defeated t a) = atom_number a
atom_field (Derived t a) = atom_number a
atom_field (RuleDefeated n) = n.0

-- the five bytes of a literal
unfoldable pub encoded : Literal → List ℕ
encoded l = kind l ∷ (two_bytes (tag_field l) ++ two_bytes (atom_field l))

-- the sign of an atom
unfoldable pub negative : SignedAtom → Bool
negative (Positive a) = false
negative (Negative a) = true

-- and of the atom in a literal; the rule-defeated mark has none and counts as positive
unfoldable pub negated : Literal → Bool
negated (Signed a) = negative a
negated (Defeated t a) = negative a
negated (Derived t a) = negative a
negated (RuleDefeated n) = false

-- the sign that a kind gives, by its remainder by 2 (02, Ask 3): on 01's kinds it is that of their literals (`negated-kinds`, `kind-sign`)
unfoldable pub negated_kind : ℕ → Bool
negated_kind k = eqb (k % 2) 1

-- from 1 to a largest value
abbrev pub in_range : ℕ → ℕ → Bool
in_range most n = leb 1 n && leb n most

-- the literal's tag and its atom or rule number are in the form's ranges
unfoldable pub ranged : Limits → Literal → Bool
ranged F (Signed a) = in_range F.atoms (atom_number a)
ranged F (Defeated t a) = in_range F.tags t.0 && in_range F.atoms (atom_number a)
ranged F (Derived t a) = in_range F.tags t.0 && in_range F.atoms (atom_number a)
ranged F (RuleDefeated n) = in_range F.numbers n.0

-- the largest kind of a source's literals, and of a plain program's
unfoldable pub most_kind : Kinds → ℕ
most_kind SourceKinds = 3
most_kind PlainKinds = 6

-- the form takes this literal: its kind, its tag and its atom or rule number are the form's
unfoldable pub takes : Limits → Literal → Bool
takes F l = leb (kind l) (most_kind F.kinds) && ranged F l

-- what bytes spell: a literal, or none
pub data Decoded : Type 0 where
  Valid : Literal → Decoded
  Wrong : Decoded

-- an atom with the sign of a kind
unfoldable pub signed_atom : ℕ → ℕ → SignedAtom
signed_atom k a = cond (negated_kind k) (Negative (record { 0 = a })) (Positive (record { 0 = a }))

-- the literal of three fields: a kind above 6, and a tag where 0 is due, spell none
unfoldable pub spelled : ℕ → ℕ → ℕ → Decoded
spelled k t a =
    cond (leb k 1) (cond (eqb t 0) (Valid (Signed (signed_atom k a))) Wrong)
    (cond (leb k 3) (Valid (Defeated (record { 0 = t }) (signed_atom k a)))
    (cond (leb k 5) (Valid (Derived (record { 0 = t }) (signed_atom k a)))
    (cond (eqb k 6) (cond (eqb t 0) (Valid (RuleDefeated (record { 0 = a }))) Wrong) Wrong)))

-- a literal that the form does not take is wrong
unfoldable pub within : Limits → Decoded → Decoded
within F (Valid l) = cond (takes F l) (Valid l) Wrong
within F Wrong = Wrong

-- what the first five bytes of bs spell in a form
unfoldable pub decoded : Limits → List ℕ → Decoded
decoded F bs = within F (spelled (get_or bs 0 0) (number_at bs 1) (number_at bs 3))

-- an atom and its explicit negation are opposite; marks have no opposite
unfoldable pub opposite : SignedAtom → SignedAtom
opposite (Positive a) = Negative a
opposite (Negative a) = Positive a
