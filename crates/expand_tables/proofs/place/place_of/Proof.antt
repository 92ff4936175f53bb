-- `place::place_of` meets its contract: by the sign.
-- Assumes nothing.
use borrow.Author.Rules.{rules}
use Rattle.expand_tables.proofs.Laws.Place.{place-positive, place-negative}
use Rattle.expand_tables.proofs.place.place_of.Statement.{statement}
use Rattle.expand_tables.proofs.place.place_of.Tie as tie

returns : tie.Need-returns-in-Positive
returns c = place-positive _ _ c.in-Positive.is

returns-2 : tie.Need-returns-in-Negative
returns-2 c = place-negative _ _ c.in-Negative.is

pub place_of_spec : {M : Type 1} → statement M
place_of_spec =
    tie.close (tie.spec (λ c. search rules) (λ c. search rules) (λ c. search rules) (λ c. search rules) (λ c. search rules) (λ c. search rules)
    (λ c. search rules) returns returns-2)
