-- `sheets::add_override` meets its contract: three stores.
-- Assumes nothing.
use borrow.Author.Rules.{rules}
use Rattle.expand_tables.proofs.Laws.Update.{overridden}
use Rattle.expand_tables.proofs.sheets.add_override.Statement.{statement}
use Rattle.expand_tables.proofs.sheets.add_override.Tie as tie

returns : tie.Need-returns
returns c =
    let a = c.args in
    overridden a.upper a.lower a.n a.up.now a.low.now a.lowers.now c.single_at-bit.result c.single_at-bit.ensures
    c.requires.0 c.requires.1.0 c.requires.1.1.0

pub add_override_spec : {M : Type 1} → statement M
add_override_spec =
    tie.close (tie.spec (λ c. search rules) (λ c κs. search rules) (λ c. search rules) (λ c. search rules) (λ c. search rules) (λ c. search rules)
    (λ c. search rules) (λ c. search rules) (λ c. search rules) (λ c. search rules) (λ c. search rules) (λ c. search rules) (λ c. search rules)
    (λ c. search rules) (λ c. search rules) (λ c. search rules) (λ c. search rules) returns)
