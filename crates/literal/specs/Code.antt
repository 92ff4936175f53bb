-- A literal's three fields, and how code asks whether three fields are right in a form: the kind byte says what stands behind it.
-- The same question as `is_valid`, with no literal made (`valid-behind`). And the number by which code compares literals.
-- In order: three fields; the kind byte in each form; what may stand behind it; whether five bytes spell a literal; the key that
-- five bytes spell, and where keys end.
-- Assumes nothing.
use Rattle.std.specs.Prelude.{ℕ, ◌+◌, ◌/◌, ◌%◌, Bool, true, false, cond, ◌&&◌, List, leb, eqb, get_or}
use Rattle.buffer.specs.Bytes.{number_at}
use Rattle.literal.specs.declared.Limits.{Limits}
use Rattle.literal.specs.declared.Kinds.{Kinds}
use Rattle.literal.specs.declared.Kinds.TheVariants.{SourceKinds, PlainKinds}
use Rattle.literal.specs.declared.Ranges.{Ranges}
use Rattle.literal.specs.declared.Fields.{Fields}
use Rattle.literal.specs.declared.Tag.{Tag}
use Rattle.literal.specs.declared.SignedAtom.{SignedAtom}
use Rattle.literal.specs.declared.SignedAtom.TheVariants.{Positive, Negative}
use Rattle.literal.specs.declared.Literal.{Literal}
use Rattle.literal.specs.Literal.{kind, tag_field, atom_field, in_range, Decoded, Valid, Wrong}
use Rattle.literal.specs.Order.{key_of}

-- the three fields of a literal
abbrev pub fields_of : Literal → Fields
fields_of l = record { kind = kind l; tag = record { 0 = tag_field l }; number = atom_field l }

-- those of a signed atom or of a mark, whose kind is k where the atom is positive
abbrev pub signed_fields : ℕ → Tag → SignedAtom → Fields
signed_fields k t (Positive a) = record { kind = k; tag = t; number = a.0 }
signed_fields k t (Negative a) = record { kind = k + 1; tag = t; number = a.0 }

-- those that five bytes spell
abbrev pub fields_at : List ℕ → Fields
fields_at bs = record { kind = get_or bs 0 0; tag = record { 0 = number_at bs 1 }; number = number_at bs 3 }

-- what may stand behind a kind: tags from a lowest to a highest one, numbers from 1 to a largest one
pub record Span : Type 0 where
  pub lowest : ℕ
  pub highest : ℕ
  pub most : ℕ

abbrev pub span : ℕ → ℕ → ℕ → Span
span l h m = record { lowest = l; highest = h; most = m }

-- the three bounds in one number
abbrev pub unpacked : Ranges → Span
unpacked r = span (r.0 / 4294967296) (r.0 / 65536 % 65536) (r.0 % 65536)

-- a source's kinds: 0 and 1 an atom and its negation, 2 and 3 their defeat marks; the rest is refused, for no number is from 1 to 0
unfoldable pub source_span : Limits → ℕ → Span
source_span F k = cond (leb k 1) (span 0 0 F.atoms) (cond (leb k 3) (span 1 F.tags F.atoms) (span 0 0 0))

-- a plain program's: 4 and 5 derivation marks too, and 6 the rule-defeated mark; the rest is refused
unfoldable pub rule_span : Limits → ℕ → Span
rule_span F k = cond (eqb k 6) (span 0 0 F.numbers) (span 0 0 0)

unfoldable pub plain_span : Limits → ℕ → Span
plain_span F k = cond (leb k 1) (span 0 0 F.atoms) (cond (leb k 5) (span 1 F.tags F.atoms) (rule_span F k))

-- a form's kinds
unfoldable pub span_among : Kinds → Limits → ℕ → Span
span_among SourceKinds F k = source_span F k
span_among PlainKinds F k = plain_span F k

-- a tag and a number that may stand there
unfoldable pub in_span : Span → ℕ → ℕ → Bool
in_span s t a = leb s.lowest t && (leb t s.highest && in_range s.most a)

-- whether five bytes spell a literal
unfoldable pub is_valid : Decoded → Bool
is_valid (Valid l) = true
is_valid Wrong = false

-- the key that five bytes spell
unfoldable pub key_at : List ℕ → ℕ
key_at bs = key_of (get_or bs 0 0) (number_at bs 1) (number_at bs 3)

-- one more than the largest key of five bytes
abbrev pub key_room : ℕ
key_room = 1099511627776
