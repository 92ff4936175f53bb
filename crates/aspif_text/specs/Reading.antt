-- What an aspif text says: lines of fields with a blank between, decimal numbers, names by their length. It is read as the format's
-- description has it, for any text, not for ours alone; of the format's statements, those that a translation needs.
-- In order: a byte that must stand there; a number, a field; fields in a row; bodies; the statements; a text; its rules.
-- Each reader hands what it read, and the text behind it, to what goes on.
-- Assumes nothing.
use Rattle.std.specs.Prelude.{ℕ, zero, suc, Bool, true, false, List, [], ◌∷◌, eqb, leb, length, take, drop}
use Rattle.std.proofs.Math.Option.{Option, none, some}
use Rattle.decimal.specs.Decimal.{read_decimal}
use Rattle.aspif_meaning.specs.Ground.{GroundRule, GroundProgram}
use Rattle.aspif_text.specs.Text.{Output, Statement, rule, output, blank, minus, line_end}

-- this byte must stand there
unfoldable pub read_byte : {X : Type 0} → ℕ → List ℕ → (List ℕ → Option X) → Option X
read_byte b [] k = none
read_byte b (c ∷ bs) k = elim (eqb c b) [ true ↦ k bs | false ↦ none ]

-- a number
unfoldable pub read_number : {X : Type 0} → List ℕ → (ℕ → List ℕ → Option X) → Option X
read_number bs k = elim (read_decimal bs) [ none ↦ none | some r ↦ k r.value r.rest ]

-- a number behind a blank
unfoldable pub read_field : {X : Type 0} → List ℕ → (ℕ → List ℕ → Option X) → Option X
read_field bs k = read_byte blank bs (λ rest. read_number rest k)

-- this number must stand there, behind a blank
unfoldable pub read_given : {X : Type 0} → ℕ → List ℕ → (List ℕ → Option X) → Option X
read_given n bs k = read_field bs (λ m rest. elim (eqb m n) [ true ↦ k rest | false ↦ none ])

-- so many fields
unfoldable pub read_fields : {X : Type 0} → ℕ → List ℕ → (List ℕ → List ℕ → Option X) → Option X
read_fields zero bs k = k [] bs
read_fields (suc n) bs k = read_field bs (λ m rest. read_fields n rest (λ ms. k (m ∷ ms)))

-- a number of a body, with whether it is negative
unfoldable pub read_signed : {X : Type 0} → List ℕ → (Bool → ℕ → List ℕ → Option X) → Option X
read_signed [] k = none
read_signed (c ∷ bs) k =
    elim (eqb c minus) [
      | true ↦ read_number bs (k true)
      | false ↦ read_number (c ∷ bs) (k false)
    ]

-- a body: positive numbers, and numbers under naf
pub record Body : Type 0 where
  pub positive : List ℕ
  pub naf : List ℕ

unfoldable pub with_signed : Bool → ℕ → Body → Body
with_signed false n b = record { positive = n ∷ b.positive; naf = b.naf }
with_signed true n b = record { positive = b.positive; naf = n ∷ b.naf }

-- so many numbers of a body
unfoldable pub read_signeds : {X : Type 0} → ℕ → List ℕ → (Body → List ℕ → Option X) → Option X
read_signeds zero bs k = k (record { positive = []; naf = [] }) bs
read_signeds (suc n) bs k =
    read_byte blank bs (λ rest. read_signed rest (λ sign m rest. read_signeds n rest (λ b. k (with_signed sign m b))))

-- a body's count, its numbers, and the line's end
unfoldable pub read_body : {X : Type 0} → List ℕ → (Body → List ℕ → Option X) → Option X
read_body bs k = read_field bs (λ n rest. read_signeds n rest (λ b rest. read_byte line_end rest (k b)))

-- behind `1`: a rule
unfoldable pub read_rule : {X : Type 0} → List ℕ → (GroundRule → List ℕ → Option X) → Option X
read_rule bs k =
    read_given 0 bs (λ rest.
    read_field rest (λ n rest.
    read_fields n rest (λ ns rest.
    read_given 0 rest (λ rest.
    read_body rest (λ b. k (record { head = ns; positive = b.positive; naf = b.naf }))))))

-- behind `4`: a name of so many bytes, whatever they are, and when it is shown
unfoldable pub read_output : {X : Type 0} → List ℕ → (Output → List ℕ → Option X) → Option X
read_output bs k =
    read_field bs (λ n rest.
    read_byte blank rest (λ rest.
    elim (leb n (length rest)) [
      | true ↦ read_body (drop n rest) (λ b. k (record { name = take n rest; positive = b.positive; naf = b.naf }))
      | false ↦ none
    ]))

-- a statement behind its number; one of another number is none that is read here
unfoldable pub read_statement : {X : Type 0} → ℕ → List ℕ → (Statement → List ℕ → Option X) → Option X
read_statement n bs k =
    elim (eqb n 1) [
      | true ↦ read_rule bs (λ r. k (rule r))
      | false ↦ elim (eqb n 4) [ true ↦ read_output bs (λ o. k (output o)) | false ↦ none ]
    ]

-- statements up to `0`, a line behind which nothing stands. f bounds how many
unfoldable pub read_statements : ℕ → List ℕ → Option (List Statement)
read_statements zero bs = none
read_statements (suc f) bs =
    read_number bs (λ n rest.
    elim (eqb n 0) [
      | true ↦ read_byte line_end rest (λ rest. elim (eqb (length rest) 0) [ true ↦ some [] | false ↦ none ])
      | false ↦ read_statement n rest (λ x rest. elim (read_statements f rest) [ some xs ↦ some (x ∷ xs) | none ↦ none ])
    ])

-- a text: `asp 1 0 0`, a line, and its statements
unfoldable pub says : List ℕ → Option (List Statement)
says bs =
    read_byte 0x61 bs (λ rest.
    read_byte 0x73 rest (λ rest.
    read_byte 0x70 rest (λ rest.
    read_given 1 rest (λ rest.
    read_given 0 rest (λ rest.
    read_given 0 rest (λ rest.
    read_byte line_end rest (λ rest. read_statements (length rest) rest)))))))

-- the ground program that statements are: their rules
unfoldable pub rules_of : List Statement → GroundProgram
rules_of [] = []
rules_of (rule r ∷ xs) = r ∷ rules_of xs
rules_of (output o ∷ xs) = rules_of xs

-- and the names that they show
unfoldable pub outputs_of : List Statement → List Output
outputs_of [] = []
outputs_of (rule r ∷ xs) = outputs_of xs
outputs_of (output o ∷ xs) = o ∷ outputs_of xs
