-- `sheets::add_opposition` meets its contract: two stores, counted where the pair is new.
-- Assumes nothing.
use native.Mathlib.Omega.{arith}
use mathlib.Core.Bool.{not}
use borrow.Author.Rules.{rules}
use Rattle.expand_tables.proofs.Laws.Update.{byte_le, opposed}
use Rattle.expand_tables.proofs.sheets.add_opposition.Statement.{statement}
use Rattle.expand_tables.proofs.sheets.add_opposition.Tie as tie

returns : tie.Need-returns
returns c =
    let a = c.args in
    opposed a.a a.b a.m a.ones.now a.others.now _ _ c.has_pair-known.result c.place_of-k.ensures
    c.place_of-l.ensures c.requires.1.1.0 c.requires.1.1.1 c.has_pair-known.ensures

pub add_opposition_spec : {M : Type 1} → statement M
add_opposition_spec =
    tie.close (tie.spec (λ c κs. search rules) (λ c. search rules) (λ c κs. search rules) (λ c. search rules) (λ c κs. search rules)
    (λ c. search rules) (λ c. search rules) (λ c. search rules) (λ c. search rules) (λ c. search rules)
    (λ c. omega (arith, byte_le (not c.has_pair-known.result))) (λ c. search rules) (λ c. search rules) returns)
