-- How long lines are, where numbers have at most five figures and counts at most two.
-- In order: a field, fields in a row, a body; the lines of a rule, of a constraint and of a name.
-- Assumes nothing.
use Prim.Native.Nat.{ℕ, ◌+◌, ◌*◌, ◌≤◌, ◌<◌}
use native.Mathlib.Omega.{arith}
use mathlib.Core.Path.{◌≡◌}
use mathlib.Core.Bool.{Bool, true, false}
use mathlib.Core.List.{List, [], ◌∷◌}
use lib.ListN.{length, length-append}
use Rattle.decimal.proofs.Laws.Decimal.{length_most, length-less}
use Rattle.literal.specs.declared.SignedAtom.{SignedAtom}
use Rattle.literal.specs.declared.SignedAtom.TheVariants.{Positive, Negative}
use Rattle.literal.specs.Literal.{atom_number}
use Rattle.semantics.proofs.Laws.Tests.{Each}
use Rattle.aspif_meaning.specs.Ground.{GroundRule}
use Rattle.aspif_meaning.specs.Program.{never_both, Name}
use Rattle.aspif_text.specs.Text.{field, fields, body_text, rule_line, output_line, name_text, output_of}

-- each number has at most five figures
abbrev pub Small : List ℕ → Type 0
Small = Each (λ n. n < 100000)

-- a field of a number below 100000 or 100, or below 10
field-five : (b : Bool) (n : ℕ) → n < 100000 → length (field b n) ≤ 7
unfolding field
field-five false n h = omega (arith, length_most 4 n (omega arith))
field-five true n h = omega (arith, length_most 4 n (omega arith))

-- one that is not negative
plain-five : (n : ℕ) → n < 100000 → length (field false n) ≤ 6
unfolding field
plain-five n h = omega (arith, length_most 4 n (omega arith))

plain-two : (n : ℕ) → n < 100 → length (field false n) ≤ 3
unfolding field
plain-two n h = omega (arith, length_most 1 n (omega arith))

plain-one : (n : ℕ) → n < 10 → length (field false n) ≡ 2
unfolding field
plain-one n h = omega (arith, length-less n h)

-- fields in a row
length_fields : (b : Bool) (ns : List ℕ) → Small ns → length (fields b ns) ≤ 7 * length ns
unfolding fields
length_fields b [] h = omega arith
length_fields b (n ∷ ns) h = omega (arith, field-five b n h.0, length_fields b ns h.1, length-append (field b n) (fields b ns))

-- a body's text, by its parts
length-body : (ps ns : List ℕ)
    → length (body_text ps ns) ≡ length (field false (length ps + length ns)) + (length (fields false ps) + (length (fields true ns) + 1))
unfolding body_text
length-body ps ns = simp length-append

-- a rule's line
pub length-rule : (r : GroundRule) → Small r.head → Small r.positive → Small r.naf → length r.head < 100
    → length r.positive + length r.naf < 100 → length (rule_line r) ≤ 12 + 7 * (length r.head + length r.positive + length r.naf)
unfolding rule_line
length-rule r h p n few-heads few =
    simp length-append
    (omega (
      arith,
      length-body r.positive r.naf,
      plain-two (length r.head) few-heads,
      plain-two (length r.positive + length r.naf) few,
      length_fields false r.head h,
      length_fields false r.positive p,
      length_fields true r.naf n,
    ))

-- a constraint's line
pub length-never : (n m : ℕ) → n < 100000 → m < 100000 → length (rule_line (never_both n m)) ≤ 22
unfolding rule_line never_both fields
length-never n m h k =
    simp length-append
    (omega (arith, length-body (n ∷ m ∷ []) [], plain-one 0 (omega arith), plain-one 2 (omega arith), pair))
  where
    pair : length (fields false (n ∷ m ∷ [])) ≤ 12
    pair = simp length-append (omega (arith, plain-five n h, plain-five m k))

-- a name of at most four figures
length-name : (a : SignedAtom) → atom_number a < 10000 → length (name_text a) ≤ 5
unfolding name_text
length-name (Positive a) h = omega (arith, length_most 3 a.0 (omega arith))
length-name (Negative a) h = omega (arith, length_most 3 a.0 (omega arith))

-- a name's line
pub length-output : (x : Name) → atom_number x.atom < 10000 → x.number < 100000 → length (output_line (output_of x)) ≤ 18
unfolding output_line output_of fields
length-output x h k =
    simp length-append
    (omega (arith, length-body (x.number ∷ []) [], plain-one 1 (omega arith), plain-one (length (name_text x.atom)) short, length-name x.atom h, only))
  where
    short : length (name_text x.atom) < 10
    short = omega (arith, length-name x.atom h)

    only : length (fields false (x.number ∷ [])) ≤ 6
    only = simp length-append (omega (arith, plain-five x.number k))
