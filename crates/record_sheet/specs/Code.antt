-- How code asks for a sheet record's options.
-- In order: five bytes that spell an option; two options by their bytes, and what their record comes to.
-- Assumes nothing.
use Rattle.std.specs.Prelude.{ℕ, Bool, true, false, ◌&&◌, List, eqb, get_or, Err, Ok}
use Rattle.record.specs.Result.{Answer}
use Rattle.buffer.specs.Bytes.{number_at}
use Rattle.literal.specs.declared.Literal.TheVariants.{Signed, Defeated, Derived, RuleDefeated}
use Rattle.literal.specs.Literal.{Decoded, Valid, Wrong}
use Rattle.record.specs.declared.Step.{Step}
use Rattle.record.specs.declared.Reason.TheVariants.{LiteralWrong, SheetSame}
use Rattle.record.specs.Refusal.{refusal}

-- an atom or a negated atom is spelled
unfoldable pub is_signed : Decoded → Bool
is_signed (Valid (Signed a)) = true
is_signed (Valid (Defeated t a)) = false
is_signed (Valid (Derived t a)) = false
is_signed (Valid (RuleDefeated n)) = false
is_signed Wrong = false

-- the kinds and the atoms of a record's two options, by its bytes, are the same
unfoldable pub same_fields : List ℕ → Bool
same_fields t = eqb (get_or t 2 0) (get_or t 7 0) && eqb (number_at t 5) (number_at t 10)

-- what a record with two options comes to, by whether each is one and whether they are the same
unfoldable pub pair_step : Bool → Bool → Bool → Answer Step
pair_step false other same = Err (refusal LiteralWrong 2)
pair_step true false same = Err (refusal LiteralWrong 7)
pair_step true true true = Err (refusal SheetSame 0)
pair_step true true false = Ok (Step.Opposition 12)
