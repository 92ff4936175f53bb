-- What is read of fields: each reader, before a text that its own text starts, hands on what that text was made of, and what is behind it.
-- In order: what stands behind a number; a byte, a number, a field; fields in a row; numbers of a body; a body.
-- Assumes nothing.
use Prim.Native.Nat.{ℕ, suc, ◌+◌, ◌/◌, ◌%◌, ◌≤◌, ◌<◌}
use native.Mathlib.Nat.{zero-add}
use native.Mathlib.Omega.{arith}
use mathlib.Core.Path.{◌≡◌, refl, ◌∙◌, ap}
use mathlib.Core.Bool.{Bool, true, false}
use mathlib.Core.List.{List, [], ◌∷◌, ◌++◌, append_assoc}
use mathlib.Core.Option.{Option}
use lib.ListN.{length}
use borrow.Author.Tests.{eq-eqb, ne_eqb}
use Rattle.decimal.specs.Decimal.{figure, decimal, is_figure}
use Rattle.decimal.proofs.Laws.Decimal.{NoFigure, decimal-less, decimal-more, by-tenths, read-decimal}
use Rattle.aspif_text.specs.Text.{blank, minus, line_end, field, fields, body_text}
use Rattle.aspif_text.specs.Reading.{read_byte, read_number, read_field, read_given, read_fields, read_signed, Body, with_signed, read_signeds, read_body}

-- no field starts with a figure, nor do fields before what doesn't, nor a line's end
pub field-none : (b : Bool) (n : ℕ) (rest : List ℕ) → NoFigure (field b n ++ rest)
unfolding field is_figure
field-none false n rest = refl
field-none true n rest = refl

pub fields-none : (b : Bool) (ns : List ℕ) (rest : List ℕ) → NoFigure rest → NoFigure (fields b ns ++ rest)
unfolding fields
fields-none b [] rest h = h
fields-none b (n ∷ ns) rest h = rw append_assoc (field-none b n (fields b ns ++ rest))

pub end_none : (rest : List ℕ) → NoFigure (line_end ∷ rest)
unfolding is_figure
end_none rest = refl

-- no decimal starts with a minus
abbrev Plain : Type 0 → ℕ → Type 0
Plain X n = (rest : List ℕ) (k : Bool → ℕ → List ℕ → Option X) → read_signed (decimal n ++ rest) k ≡ read_number (decimal n ++ rest) (k false)

module _ {X : Type 0} where
  -- a byte
  pub read_byte_lem : (b : ℕ) (rest : List ℕ) (k : List ℕ → Option X) → read_byte b (b ∷ rest) k ≡ k rest
  unfolding read_byte
  read_byte_lem b rest k = rw (eq-eqb b b refl, read_byte)

  -- a number
  pub read_number_lem : (n : ℕ) (rest : List ℕ) → NoFigure rest → (k : ℕ → List ℕ → Option X) → read_number (decimal n ++ rest) k ≡ k n rest
  unfolding read_number
  read_number_lem n rest h k = rw (read-decimal n rest h, read_number)

  -- a field
  pub read-field : (n : ℕ) (rest : List ℕ) → NoFigure rest → (k : ℕ → List ℕ → Option X) → read_field (field false n ++ rest) k ≡ k n rest
  unfolding read_field field
  read-field n rest h k = read_byte_lem blank (decimal n ++ rest) (λ bs. read_number bs k) ∙ read_number_lem n rest h k

  -- a field of which the number is given
  pub read-given : (n : ℕ) (rest : List ℕ) → NoFigure rest → (k : List ℕ → Option X) → read_given n (field false n ++ rest) k ≡ k rest
  unfolding read_given
  read-given n rest h k = rw (read-field n rest h) (rw (eq-eqb n n refl))

  -- fields in a row
  pub read-fields : (ns rest : List ℕ) → NoFigure rest → (k : List ℕ → List ℕ → Option X) → read_fields (length ns) (fields false ns ++ rest) k ≡ k ns rest
  unfolding read_fields fields
  read-fields [] rest h k = refl
  read-fields (n ∷ ns) rest h k =
      ap (λ (bs : List ℕ). read_fields (suc (length ns)) bs k) (append_assoc (field false n) (fields false ns) rest)
      ∙ read-field n (fields false ns ++ rest) (fields-none false ns rest h) (λ m more. read_fields (length ns) more (λ ms. k (m ∷ ms)))
      ∙ read-fields ns rest h (λ ms. k (n ∷ ms))

  -- a number of a body that is not negative
  plain : (n : ℕ) → Plain X n
  unfolding read_signed
  plain = by-tenths (Plain X) less more
    where
      less : (n : ℕ) → n < 10 → Plain X n
      less n h rest k = rw (decimal-less n h, ne_eqb (figure n) minus (λ e. omega arith), read_signed)

      more : (n : ℕ) → 10 ≤ n → Plain X (n / 10) → Plain X n
      more n h ih rest k = rw (decimal-more n h, append_assoc) (ih (figure (n % 10) ∷ rest) k)

  -- a field of a body, behind its blank
  abbrev signed : List ℕ → (Bool → ℕ → List ℕ → Option X) → Option X
  signed bs k = read_byte blank bs (λ rest. read_signed rest k)

  read-signed : (b : Bool) (n : ℕ) (rest : List ℕ) → NoFigure rest → (k : Bool → ℕ → List ℕ → Option X) → signed (field b n ++ rest) k ≡ k b n rest
  unfolding field read_signed
  read-signed false n rest h k =
      read_byte_lem blank (decimal n ++ rest) (λ bs. read_signed bs k) ∙ plain n rest k ∙ read_number_lem n rest h (k false)
  read-signed true n rest h k =
      read_byte_lem blank (minus ∷ (decimal n ++ rest)) (λ bs. read_signed bs k) ∙ read_number_lem n rest h (k true)

  -- one more number of a body
  abbrev goes_on : ℕ → (Body → List ℕ → Option X) → Bool → ℕ → List ℕ → Option X
  goes_on n k sign m rest = read_signeds n rest (λ b. k (with_signed sign m b))

  -- numbers under naf
  read-nafs : (ns rest : List ℕ) → NoFigure rest → (k : Body → List ℕ → Option X)
      → read_signeds (length ns) (fields true ns ++ rest) k ≡ k (record { positive = []; naf = ns }) rest
  unfolding read_signeds fields with_signed
  read-nafs [] rest h k = refl
  read-nafs (n ∷ ns) rest h k =
      ap (λ (bs : List ℕ). read_signeds (suc (length ns)) bs k) (append_assoc (field true n) (fields true ns) rest)
      ∙ read-signed true n (fields true ns ++ rest) (fields-none true ns rest h) (goes_on (length ns) k)
      ∙ read-nafs ns rest h (λ b. k (with_signed true n b))

  -- positive numbers, then those
  pub read-signeds : (ps ns rest : List ℕ) → NoFigure rest → (k : Body → List ℕ → Option X)
      → read_signeds (length ps + length ns) (fields false ps ++ (fields true ns ++ rest)) k ≡ k (record { positive = ps; naf = ns }) rest
  unfolding read_signeds fields with_signed
  read-signeds [] ns rest h k = rw (zero-add (length ns)) (read-nafs ns rest h k)
  read-signeds (p ∷ ps) ns rest h k =
      let behind = fields false ps ++ (fields true ns ++ rest) in
      ap (λ (n : ℕ). read_signeds n ((field false p ++ fields false ps) ++ (fields true ns ++ rest)) k) more
      ∙ ap (λ (bs : List ℕ). read_signeds (suc (length ps + length ns)) bs k) (append_assoc (field false p) (fields false ps) (fields true ns ++ rest))
      ∙ read-signed false p behind (fields-none false ps (fields true ns ++ rest) (fields-none true ns rest h)) (goes_on (length ps + length ns) k)
      ∙ read-signeds ps ns rest h (λ b. k (with_signed false p b))
    where
      more : length (p ∷ ps) + length ns ≡ suc (length ps + length ns)
      more = omega arith

  -- a body
  pub read-body : (ps ns rest : List ℕ) (k : Body → List ℕ → Option X)
      → read_body (body_text ps ns ++ rest) k ≡ k (record { positive = ps; naf = ns }) rest
  unfolding read_body body_text
  read-body ps ns rest k =
      let none = fields-none false ps _ (fields-none true ns (line_end ∷ rest) (end_none rest)) in
      simp append_assoc
      (read-field (length ps + length ns) (fields false ps ++ (fields true ns ++ (line_end ∷ rest))) none
      (λ n more. read_signeds n more (λ b more. read_byte line_end more (k b)))
      ∙ read-signeds ps ns (line_end ∷ rest) (end_none rest) (λ b more. read_byte line_end more (k b)) ∙ read_byte_lem line_end rest (k _))
