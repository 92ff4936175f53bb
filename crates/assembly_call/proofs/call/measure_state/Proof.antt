-- `call::measure_state` meets its contract: what a state says is held, and an end record. Assumes nothing.
use native.Mathlib.Omega.{arith}
use mathlib.Core.Path.{◌≡◌}
use borrow.Author.Rules.{rules}
use Rattle.literal.specs.Limits.{source}
use Rattle.assembly.specs.State.{stage_of}
use Rattle.assembly.specs.Code.{standing_of}
use Rattle.assembly.proofs.Laws.Turn.{assembled-standing}
use Rattle.assembly.proofs.Laws.Forms.{assemblable-source, standing-small}
use Rattle.assembly_call.proofs.call.measure_state.Statement.{statement}
use Rattle.assembly_call.proofs.call.measure_state.Tie as tie

-- what the state says
standing : (c : tie.After-inspect_source-standing) → c.inspect_source-standing.result ≡ standing_of (stage_of source c.args.state.now)
standing c = c.inspect_source-standing.ensures

add-result : tie.Need-overflow_add-result
add-result c =
    omega (arith, standing-small source assemblable-source _ (λ i. (c.shared_slice_known-1.given i).fits) _ (standing c.before))

returns : tie.Need-returns
returns c = assembled-standing source _ _ (standing c.before)

pub measure_state_spec : {M : Type 1} → statement M
measure_state_spec = tie.close (tie.spec (λ c κs. search rules) add-result returns)
