-- `encode::encode` meets its contract: the three fields, written one behind the other.
-- Assumes nothing.
use native.Mathlib.Omega.{arith}
use borrow.Author.Rules.{rules}
use Rattle.literal.proofs.Laws.Literal.{write-fields}
use Rattle.literal_fields.proofs.encode.encode.Statement.{statement}
use Rattle.literal_fields.proofs.encode.encode.Tie as tie

returns : tie.Need-returns
returns c =
    let a = c.args in
    rw (c.put_number-2.ensures, c.put_number.ensures, c.put_byte.ensures, c.fields_of-f.ensures)
    (write-fields a.out.now a.at a.l (omega arith))

pub encode_spec : {M : Type 1} → statement M
encode_spec =
    tie.close (tie.spec (λ c κs. search rules) (λ c κs. search rules) (λ c. search rules) (λ c κs. search rules) (λ c. search rules)
    (λ c κs. search rules) (λ c. search rules) returns)
