-- `call::begin_state` meets its contract: another length, no room, or a state that is open.
-- Assumes nothing.
use native.Mathlib.Omega.{arith}
use Rattle.std.specs.Prelude.{Ok}
use mathlib.Core.Path.{◌≡◌, sym, ap, subst, ◌∙◌}
use mathlib.Core.List.{[]}
use lib.ListN.{length}
use borrow.Author.Rules.{rules}
use Rattle.literal.specs.Limits.{source}
use Rattle.assembly.specs.State.{opened, state_bytes, encoded_stage}
use Rattle.assembly.specs.Calls.{begin}
use Rattle.assembly.specs.Code.{Assemblable}
use Rattle.assembly.proofs.Laws.Turn.{length-turn, begin-short, begin-held}
use Rattle.assembly.proofs.Laws.Forms.{assemblable-source}
use Rattle.assembly_call.proofs.Laws.Calls.{keeps, refused-keeps}
use Rattle.assembly_call.proofs.call.begin_state.Statement.{statement}
use Rattle.assembly_call.proofs.call.begin_state.Tie as tie

-- the limits are the source form's
ok : (c : tie.After-limits-lim) → Assemblable c.limits-lim.result
ok c = subst Assemblable (sym c.limits-lim.ensures) assemblable-source

-- the state has its length
long : (c : tie.Else-state-lim) → length c.args.state.now ≡ state_bytes source
long c = c.if-state-lim.false ∙ ap state_bytes c.limits-lim.ensures

mul-if1 : tie.Need-overflow_mul-lim
mul-if1 c = omega (arith, (ok c.before).rules)

add-if1 : tie.Need-overflow_add-lim
add-if1 c = omega (arith, (ok c.before).rules)

returns : tie.Need-returns-then-state-lim
returns c =
    let a = c.args in
    refused-keeps _ _ _ _ a.out.now
    (length-turn source begin a.state.now a.out.now (λ q. c.if-state-lim.true (q ∙ sym (ap state_bytes c.limits-lim.ensures)))) c.refuse.ensures

returns-2 : tie.Need-returns-then-out-lt4
returns-2 c =
    let a = c.args in
    refused-keeps _ _ _ _ a.out.now (begin-short source a.state.now a.out.now (long c.before.before) c.if-out-lt4.true) c.refuse-then-out-lt4.ensures

open-state-requires : tie.Need-open_state-requires
open-state-requires c κs = c.if-state-lim.false

returns-3 : tie.Need-returns
returns-3 c =
    let else-state-lim = c.before.before.before.before.before in
    let a = c.args in
    keeps _ _ _ a.out.now
    (begin-held source a.state.now a.out.now (long else-state-lim) c.if-out-lt4.false
    ∙ ap (λ st. record { answer = Ok 0; state = st; buffer = a.out.now })
    (sym (c.open_state.ensures ∙ ap (λ F. encoded_stage F (opened [])) c.limits-lim.ensures)))

pub begin_state_spec : {M : Type 1} → statement M
begin_state_spec =
    tie.close (tie.spec (λ c κs. search rules) mul-if1 add-if1 (λ c κs. search rules) returns (λ c κs. search rules) returns-2 open-state-requires
    (λ c. search rules) returns-3)
