-- Whether three fields are right: the question of `is_valid`, asked of the fields behind the decoded kind.
-- In order: a literal in the form; a literal behind its kind, without and with a tag; the two questions, kind
-- by kind in each form; bounds in one number; the matches of the two forms; the fields of each case of a literal. Assumes nothing.
use Prim.Native.Nat.{ℕ, zero, suc, ◌+◌, ◌*◌, ◌/◌, ◌%◌, ◌≤◌, ◌<◌}
use native.Mathlib.Omega.{arith}
use mathlib.Core.Path.{◌≡◌, refl, sym, ◌∙◌}
use mathlib.Core.Bool.{Bool, true, false, cond, ◌&&◌, and-false, and_assoc}
use mathlib.Core.List.{List}
use lib.Dec.{leb, eqb}
use lib.ListN.{get_or}
use borrow.Author.Tests.{ne_eqb, le-leb, lt-leb}
use Rattle.buffer.specs.Bytes.{number_at}
use Rattle.literal.specs.declared.Limits.{Limits}
use Rattle.literal.specs.declared.Kinds.{Kinds}
use Rattle.literal.specs.declared.Kinds.TheVariants.{SourceKinds, PlainKinds}
use Rattle.literal.specs.declared.Fields.{Fields}
use Rattle.literal.specs.declared.Tag.{Tag}
use Rattle.literal.specs.declared.RuleNo.{RuleNo}
use Rattle.literal.specs.declared.SignedAtom.{SignedAtom}
use Rattle.literal.specs.declared.SignedAtom.TheVariants.{Positive, Negative}
use Rattle.literal.specs.declared.Literal.{Literal}
use Rattle.literal.specs.declared.Literal.TheVariants.{Signed, Defeated, Derived, RuleDefeated}
use Rattle.literal.specs.Literal.{kind, tag_field, atom_field, ranged, most_kind, takes, in_range, signed_atom, negated_kind, Valid, Wrong, spelled, within, decoded}
use Rattle.literal.specs.Code.{is_valid, fields_of, fields_at, signed_fields, Span, span, unpacked, source_span, rule_span, plain_span, span_among, in_span}
use Rattle.literal.proofs.Laws.Literal.{spelled-above}

-- a literal is right where the form takes it
valid-taken : (F : Limits) (l : Literal) → is_valid (within F (Valid l)) ≡ takes F l
unfolding is_valid within
valid-taken F l = go (takes F l)
  where
    go : (b : Bool) → is_valid (cond b (Valid l) Wrong) ≡ b
    go true = refl
    go false = refl

module _ (F : Limits) (l : Literal) (t a : ℕ) where
  -- a literal whose tag field has to be 0
  right-untagged : (most : ℕ) → takes F l ≡ in_range most a → is_valid (within F (cond (eqb t 0) (Valid l) Wrong)) ≡ in_span (span 0 0 most) t a
  unfolding is_valid within in_span
  right-untagged most e = go t
    where
      go : (u : ℕ) → is_valid (within F (cond (eqb u 0) (Valid l) Wrong)) ≡ (leb 0 u && (leb u 0 && in_range most a))
      go zero = valid-taken F l ∙ e
      go (suc u) = rw (ne_eqb (suc u) 0 (omega arith), lt-leb (suc u) 0 (omega arith), and-false (leb 0 (suc u)))

  -- a mark
  right-tagged : takes F l ≡ (in_range F.tags t && in_range F.atoms a) → is_valid (within F (Valid l)) ≡ in_span (span 1 F.tags F.atoms) t a
  unfolding in_span
  right-tagged e = valid-taken F l ∙ e ∙ and_assoc (leb 1 t) (leb t F.tags) (in_range F.atoms a)

-- where no number may stand, nothing is right
refused-wrong : (t a : ℕ) → in_span (span 0 0 0) t a ≡ false
unfolding in_span
refused-wrong t a = rw (none a, and-false (leb t 0), and-false (leb 0 t))
  where
    none : (n : ℕ) → in_range 0 n ≡ false
    none zero = refl
    none (suc n) = rw (lt-leb (suc n) 0 (omega arith), and-false (leb 1 (suc n)))

module _ (F : Limits) (l : Literal) (t a : ℕ) (e : takes F l ≡ false) where
  -- so is a literal that the form does not take, with any tag
  right-refused : is_valid (within F (Valid l)) ≡ in_span (span 0 0 0) t a
  right-refused = valid-taken F l ∙ e ∙ sym (refused-wrong t a)

  right-refused-untagged : is_valid (within F (cond (eqb t 0) (Valid l) Wrong)) ≡ in_span (span 0 0 0) t a
  unfolding is_valid within
  right-refused-untagged = go (eqb t 0)
    where
      go : (b : Bool) → is_valid (within F (cond b (Valid l) Wrong)) ≡ in_span (span 0 0 0) t a
      go true = right-refused
      go false = sym (refused-wrong t a)

-- no kind above 6 is any form's
right-above : (F : Limits) (K : Kinds) (k t a : ℕ) → 6 < k → is_valid (within F (spelled k t a)) ≡ in_span (span_among K F k) t a
unfolding is_valid within span_among source_span plain_span rule_span
right-above F SourceKinds k t a h = rw (spelled-above k t a h, lt-leb k 1 (omega (arith, h)), lt-leb k 3 (omega (arith, h))) (sym (refused-wrong t a))
right-above F PlainKinds k t a h =
    rw (spelled-above k t a h, lt-leb k 1 (omega (arith, h)), lt-leb k 5 (omega (arith, h)), ne_eqb k 6 (omega (arith, h))) (sym (refused-wrong t a))

module _ (F : Limits) where
  -- three fields spell a literal of a source exactly where the last two may stand behind the first
  right-source : F.kinds ≡ SourceKinds → (k t a : ℕ) → is_valid (within F (spelled k t a)) ≡ in_span (source_span F k) t a
  unfolding spelled signed_atom negated_kind takes ranged kind most_kind source_span span_among
  right-source e zero t a = right-untagged F (Signed (Positive (record { 0 = a }))) t a F.atoms (rw e)
  right-source e (suc zero) t a = right-untagged F (Signed (Negative (record { 0 = a }))) t a F.atoms (rw e)
  right-source e (suc (suc zero)) t a = right-tagged F (Defeated (record { 0 = t }) (Positive (record { 0 = a }))) t a (rw e)
  right-source e (suc (suc (suc zero))) t a = right-tagged F (Defeated (record { 0 = t }) (Negative (record { 0 = a }))) t a (rw e)
  right-source e (suc (suc (suc (suc zero)))) t a = right-refused F (Derived (record { 0 = t }) (Positive (record { 0 = a }))) t a (rw e)
  right-source e (suc (suc (suc (suc (suc zero))))) t a = right-refused F (Derived (record { 0 = t }) (Negative (record { 0 = a }))) t a (rw e)
  right-source e (suc (suc (suc (suc (suc (suc zero)))))) t a = right-refused-untagged F (RuleDefeated (record { 0 = a })) t a (rw e)
  right-source e (suc (suc (suc (suc (suc (suc (suc k))))))) t a = right-above F SourceKinds (suc (suc (suc (suc (suc (suc (suc k))))))) t a (omega arith)

  -- and of a plain program
  right-plain : F.kinds ≡ PlainKinds → (k t a : ℕ) → is_valid (within F (spelled k t a)) ≡ in_span (plain_span F k) t a
  unfolding spelled signed_atom negated_kind takes ranged kind most_kind plain_span rule_span span_among
  right-plain e zero t a = right-untagged F (Signed (Positive (record { 0 = a }))) t a F.atoms (rw e)
  right-plain e (suc zero) t a = right-untagged F (Signed (Negative (record { 0 = a }))) t a F.atoms (rw e)
  right-plain e (suc (suc zero)) t a = right-tagged F (Defeated (record { 0 = t }) (Positive (record { 0 = a }))) t a (rw e)
  right-plain e (suc (suc (suc zero))) t a = right-tagged F (Defeated (record { 0 = t }) (Negative (record { 0 = a }))) t a (rw e)
  right-plain e (suc (suc (suc (suc zero)))) t a = right-tagged F (Derived (record { 0 = t }) (Positive (record { 0 = a }))) t a (rw e)
  right-plain e (suc (suc (suc (suc (suc zero))))) t a = right-tagged F (Derived (record { 0 = t }) (Negative (record { 0 = a }))) t a (rw e)
  right-plain e (suc (suc (suc (suc (suc (suc zero)))))) t a = right-untagged F (RuleDefeated (record { 0 = a })) t a F.numbers (rw e)
  right-plain e (suc (suc (suc (suc (suc (suc (suc k))))))) t a = right-above F PlainKinds (suc (suc (suc (suc (suc (suc (suc k))))))) t a (omega arith)

  -- so five bytes spell a literal of the form
  valid-fields : (bs : List ℕ) → is_valid (decoded F bs) ≡ in_span (span_among F.kinds F (get_or bs 0 0)) (number_at bs 1) (number_at bs 3)
  unfolding decoded span_among
  valid-fields bs = go F.kinds refl
    where
      go : (K : Kinds) → F.kinds ≡ K → is_valid (within F (spelled (get_or bs 0 0) (number_at bs 1) (number_at bs 3)))
          ≡ in_span (span_among K F (get_or bs 0 0)) (number_at bs 1) (number_at bs 3)
      go SourceKinds e = right-source e (get_or bs 0 0) (number_at bs 1) (number_at bs 3)
      go PlainKinds e = right-plain e (get_or bs 0 0) (number_at bs 1) (number_at bs 3)

  -- the same, of fields and bounds that code has at hand
  pub valid-behind : (bs : List ℕ) (f : Fields) (s : Span) → f ≡ fields_at bs → s ≡ span_among F.kinds F f.kind
      → is_valid (decoded F bs) ≡ in_span s f.tag.0 f.number
  valid-behind bs f s fields decodes = rw (decodes, fields) (valid-fields bs)

-- three bounds of two bytes in one number
pub span-packed : (l h m : ℕ) → h < 65536 → m < 65536 → unpacked (record { 0 = (l * 65536 + h) * 65536 + m }) ≡ span l h m
span-packed l h m fh fm = rw (first, second, third)
  where
    first : ((l * 65536 + h) * 65536 + m) / 4294967296 ≡ l
    first = omega (arith, fh, fm)

    second : ((l * 65536 + h) * 65536 + m) / 65536 % 65536 ≡ h
    second = omega (arith, fh, fm)

    third : ((l * 65536 + h) * 65536 + m) % 65536 ≡ m
    third = omega (arith, fm)

-- the matches, arm by arm
module _ (F : Limits) (k : ℕ) where
  pub source-untagged : k ≤ 1 → source_span F k ≡ span 0 0 F.atoms
  unfolding source_span
  source-untagged h = rw (le-leb k 1 h)

  pub source-tagged : 1 < k → k ≤ 3 → source_span F k ≡ span 1 F.tags F.atoms
  unfolding source_span
  source-tagged g h = rw (lt-leb k 1 g, le-leb k 3 h)

  pub source-refused : 3 < k → source_span F k ≡ span 0 0 0
  unfolding source_span
  source-refused h = rw (lt-leb k 1 (omega (arith, h)), lt-leb k 3 h)

  pub plain-untagged : k ≤ 1 → plain_span F k ≡ span 0 0 F.atoms
  unfolding plain_span
  plain-untagged h = rw (le-leb k 1 h)

  pub plain-tagged : 1 < k → k ≤ 5 → plain_span F k ≡ span 1 F.tags F.atoms
  unfolding plain_span
  plain-tagged g h = rw (lt-leb k 1 g, le-leb k 5 h)

  pub plain_other : 5 < k → plain_span F k ≡ rule_span F k
  unfolding plain_span
  plain_other h = rw (lt-leb k 1 (omega (arith, h)), lt-leb k 5 h)

  pub rule-numbered : k ≡ 6 → rule_span F k ≡ span 0 0 F.numbers
  unfolding rule_span
  rule-numbered e = rw e

  pub rule-refused : (k ≡ 6 → ⊥) → rule_span F k ≡ span 0 0 0
  unfolding rule_span
  rule-refused h = rw (ne_eqb k 6 h)

-- the fields of a signed atom and of its marks, by the atom's sign
pub fields-signed : (a : SignedAtom) → fields_of (Signed a) ≡ signed_fields 0 (record { 0 = 0 }) a
unfolding kind tag_field atom_field
fields-signed (Positive a) = refl
fields-signed (Negative a) = refl

module _ (t : Tag) where
  pub fields-defeated : (a : SignedAtom) → fields_of (Defeated t a) ≡ signed_fields 2 t a
  unfolding kind tag_field atom_field
  fields-defeated (Positive a) = refl
  fields-defeated (Negative a) = refl

  pub fields-derived : (a : SignedAtom) → fields_of (Derived t a) ≡ signed_fields 4 t a
  unfolding kind tag_field atom_field
  fields-derived (Positive a) = refl
  fields-derived (Negative a) = refl

pub fields-rule : (n : RuleNo) → fields_of (RuleDefeated n) ≡ record { kind = 6; tag = record { 0 = 0 }; number = n.0 }
unfolding kind tag_field atom_field
fields-rule n = refl
