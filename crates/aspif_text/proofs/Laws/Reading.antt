-- What a text of statements says: those statements.
-- In order: a rule and a name, behind their numbers; statements up to the last line; a text.
-- Assumes nothing.
use Prim.Native.Nat.{ℕ, zero, suc, ◌+◌, ◌≤◌, ◌<◌}
use native.Mathlib.Omega.{arith}
use mathlib.Core.Path.{◌≡◌, refl, sym, ◌∙◌, ap}
use mathlib.Core.Bool.{false}
use mathlib.Core.List.{List, [], ◌∷◌, ◌++◌, append_assoc}
use mathlib.Core.Option.{Option, none, some}
use lib.ListN.{length, length-append}
use lib.Seq.{take-append_seam, drop-append_seam}
use borrow.Author.Tests.{le-leb}
use Rattle.decimal.specs.Decimal.{is_figure, figures_from, read_decimal}
use Rattle.decimal.proofs.Laws.Decimal.{NoFigure, decimal-less}
use Rattle.aspif_meaning.specs.Ground.{GroundRule}
use Rattle.aspif_text.specs.Text.{Output, Statement, rule, output, blank, field, fields, body_text, rule_line, output_line, line, lines, first_line, last_line, text_of}
use Rattle.aspif_text.specs.Reading.{read_byte, read_number, read_field, read_given, read_rule, read_output, read_statement, read_statements, says}
use Rattle.aspif_text.proofs.Laws.Fields.{field-none, fields-none, read_byte_lem, read-field, read-given, read-fields, read-body}

-- what stands behind the first byte of a rule's line, and of a name's
abbrev rule_rest : GroundRule → List ℕ → List ℕ
rule_rest r rest =
    blank ∷ 0x30 ∷ (field false (length r.head) ++ (fields false r.head ++ (blank ∷ 0x30 ∷ (body_text r.positive r.naf ++ rest))))

abbrev output_rest : Output → List ℕ → List ℕ
output_rest o rest = field false (length o.name) ++ (blank ∷ (o.name ++ (body_text o.positive o.naf ++ rest)))

rule-rest : (r : GroundRule) (rest : List ℕ) → rule_line r ++ rest ≡ 0x31 ∷ rule_rest r rest
unfolding rule_line
rule-rest r rest = simp append_assoc

output-rest : (o : Output) (rest : List ℕ) → output_line o ++ rest ≡ 0x34 ∷ output_rest o rest
unfolding output_line
output-rest o rest = simp append_assoc

-- a body's text starts with a blank
body-none : (ps ns rest : List ℕ) → NoFigure (body_text ps ns ++ rest)
unfolding body_text
body-none ps ns rest = rw append_assoc (field-none false (length ps + length ns) _)

module _ {X : Type 0} where
  -- `0` behind a blank, before what is no figure
  read-zero : (rest : List ℕ) → NoFigure rest → (k : List ℕ → Option X) → read_given 0 (blank ∷ 0x30 ∷ rest) k ≡ k rest
  unfolding field
  read-zero rest h k = ap (λ (ds : List ℕ). read_given 0 (blank ∷ (ds ++ rest)) k) (sym (decimal-less 0 (omega arith))) ∙ read-given 0 rest h k

  -- a rule, behind `1`
  read-rule : (r : GroundRule) (rest : List ℕ) (k : GroundRule → List ℕ → Option X) → read_rule (rule_rest r rest) k ≡ k r rest
  unfolding read_rule is_figure
  read-rule r rest k =
      let body = body_text r.positive r.naf ++ rest in
      read-zero (field false (length r.head) ++ (fields false r.head ++ (blank ∷ 0x30 ∷ body))) (field-none false (length r.head) _) _
      ∙ read-field (length r.head) (fields false r.head ++ (blank ∷ 0x30 ∷ body)) (fields-none false r.head (blank ∷ 0x30 ∷ body) refl) _
      ∙ read-fields r.head (blank ∷ 0x30 ∷ body) refl _
      ∙ read-zero body (body-none r.positive r.naf rest) _
      ∙ read-body r.positive r.naf rest _

  -- a name, behind `4`
  read-output : (o : Output) (rest : List ℕ) (k : Output → List ℕ → Option X) → read_output (output_rest o rest) k ≡ k o rest
  unfolding read_output is_figure
  read-output o rest k =
      let body = body_text o.positive o.naf ++ rest in
      read-field (length o.name) (blank ∷ (o.name ++ body)) refl _
      ∙ read_byte_lem blank (o.name ++ body) _
      ∙ rw (
        le-leb (length o.name) (length (o.name ++ body)) (omega (arith, length-append o.name body)),
        drop-append_seam o.name body,
        take-append_seam o.name body,
      ) (read-body o.positive o.naf rest _)

-- each line has a byte
long-line : (x : Statement) → 1 ≤ length (line x)
unfolding line rule_line output_line
long-line (rule r) = omega arith
long-line (output o) = omega arith

long-lines : (xs : List Statement) → length xs ≤ length (lines xs)
unfolding lines
long-lines [] = omega arith
long-lines (x ∷ xs) = omega (arith, long-line x, long-lines xs, length-append (line x) (lines xs))

-- statements that are read, behind one that was
abbrev with_first : Statement → Option (List Statement) → Option (List Statement)
with_first x o = elim o [ some xs ↦ some (x ∷ xs) | none ↦ none ]

-- a statement's line and what is behind it
read-line : (f : ℕ) (x : Statement) (rest : List ℕ) → read_statements (suc f) (line x ++ rest) ≡ with_first x (read_statements f rest)
unfolding read_statements read_statement read_number read_decimal is_figure figures_from line field
read-line f (rule r) rest =
    ap (read_statements (suc f)) (rule-rest r rest) ∙ read-rule r rest (λ y more. with_first (rule y) (read_statements f more))
read-line f (output o) rest =
    ap (read_statements (suc f)) (output-rest o rest) ∙ read-output o rest (λ y more. with_first (output y) (read_statements f more))

-- statements up to the last line
read-lines : (f : ℕ) (xs : List Statement) → length xs < f → read_statements f (lines xs ++ last_line) ≡ some xs
unfolding lines last_line read_statements read_number read_decimal is_figure figures_from read_byte
read-lines zero xs h = absurd (omega arith)
read-lines (suc f) [] h = last
  where
    last : read_statements (suc f) last_line ≡ some []
    last = refl
read-lines (suc f) (x ∷ xs) h =
    ap (read_statements (suc f)) (append_assoc (line x) (lines xs) last_line) ∙ read-line f x (lines xs ++ last_line)
    ∙ ap (with_first x) (read-lines f xs (omega arith))

-- a text of statements says them
pub says-text : (xs : List Statement) → says (text_of xs) ≡ some xs
unfolding says text_of first_line last_line read_given read_field read_byte read_number read_decimal is_figure figures_from
says-text xs = read-lines (length (lines xs ++ last_line)) xs (omega (arith, long-lines xs, length-append (lines xs) last_line, two))
  where
    two : length last_line ≡ 2
    two = refl
