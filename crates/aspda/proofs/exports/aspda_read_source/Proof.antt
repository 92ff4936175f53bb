-- `exports::aspda_read_source` meets its contract: read's answer has room in its word.
-- Assumes nothing.
use native.Mathlib.Omega.{arith}
use mathlib.Core.Path.{◌∙◌, ap}
use borrow.Author.Rules.{rules}
use Rattle.literal.specs.Limits.{source}
use Rattle.aspda_word.specs.Words.{count_word}
use Rattle.aspda.proofs.Laws.Words.{reading-short}
use Rattle.aspda.proofs.exports.aspda_read_source.Statement.{statement}
use Rattle.aspda.proofs.exports.aspda_read_source.Tie as tie

reading-word-requires : tie.Need-count_word-requires
unfolding source
reading-word-requires c κs = reading-short source (omega arith) c.args.s.now _ c.read_source.ensures

returns : tie.Need-returns
returns c = c.count_word.ensures ∙ ap count_word c.read_source.ensures

pub aspda_read_source_spec : {M : Type 1} → statement M
aspda_read_source_spec = tie.close (tie.spec (λ c κs. search rules) reading-word-requires returns)
