-- `options::option_at` meets its contract: the kind's sign and the atom's two bytes.
-- Assumes nothing.
use mathlib.Core.Path.{◌∙◌, ap}
use lib.ListN.{get_or}
use borrow.Author.Rules.{rules}
use Rattle.literal.specs.Literal.{signed_atom}
use Rattle.record_walk.specs.Code.{option_at}
use Rattle.record_walk.proofs.options.option_at.Statement.{statement}
use Rattle.record_walk.proofs.options.option_at.Tie as tie

returns : tie.Need-returns
unfolding option_at
returns c =
    let a = c.args in c.sign.ensures ∙ ap (signed_atom (get_or a.s.now a.at 0)) c.get_atom.ensures

pub option_at_spec : {M : Type 1} → statement M
option_at_spec = tie.close (tie.spec (λ c. search rules) (λ c. search rules) (λ c κs. search rules) (λ c κs. search rules) returns)
