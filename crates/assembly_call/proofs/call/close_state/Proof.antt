-- `call::close_state` meets its contract: no open assembly, no room, or the end record behind the rules.
-- Assumes nothing.
use Prim.Native.Nat.{ℕ}
use Rattle.std.specs.Prelude.{Ok}
use native.Mathlib.Omega.{arith}
use mathlib.Core.Path.{◌≡◌, sym, ap, ap₂, ◌∙◌}
use mathlib.Core.List.{List}
use borrow.Author.Rules.{rules}
use borrow.Author.Tests.{not-true, not-false}
use Rattle.buffer.specs.Bytes.{Bytes}
use Rattle.literal.specs.Limits.{source}
use Rattle.assembly.specs.declared.Standing.{Standing}
use Rattle.assembly.specs.State.{stage_of}
use Rattle.assembly.specs.Code.{standing_of}
use Rattle.assembly.proofs.Laws.Turn.{Active, active-state, idle-close, close-short, close-held}
use Rattle.assembly.proofs.Laws.Forms.{assemblable-source}
use Rattle.assembly_call.proofs.Laws.Calls.{meets, refused-meets}
use Rattle.assembly_call.proofs.call.close_state.Statement.{statement}
use Rattle.assembly_call.proofs.call.close_state.Tie as tie

-- what the state says
standing : (c : tie.After-inspect_source-standing) → c.inspect_source-standing.result ≡ standing_of (stage_of source c.args.state.now)
standing c = c.inspect_source-standing.ensures

-- its elements are bytes
bytes : (c : tie.After-inspect_source-standing) → Bytes c.args.state.now
bytes c i = (c.slice_known-1.given i).fits

active : (c : tie.Else-not-standing) → (let h = c.inspect_source-standing.result in Active source c.args.state.now h.rules h.bytes)
active c =
    active-state source assemblable-source c.args.state.now (bytes c.before.before) c.inspect_source-standing.result (standing c.before.before)
    (not-false _ c.if-not-standing.false)

returns : tie.Need-returns-then-not-standing
returns c =
    refused-meets _ _ _ _ _ (idle-close source _ _ (sym (ap (λ (h : Standing). h.active) (standing c.before.before.before)) ∙ not-true _ c.if-not-standing.true)) c.refuse.ensures

add-if2 : tie.Need-overflow_add-bytes
add-if2 c = let w = active c in omega (arith, w.small, w.few, assemblable-source.rules)

returns-2 : tie.Need-returns-then-out-bytes
returns-2 c =
    refused-meets _ _ _ _ _ (close-short source assemblable-source _ _ _ _ (active c.before.before) c.if-out-bytes.true) c.refuse-then-out-bytes.ensures

cast-write-end : tie.Need-overflow_cast-rules
cast-write-end c = let w = active c.before in omega (arith, w.few, assemblable-source.rules)

put-byte-requires : tie.Need-put_byte-requires
put-byte-requires c κs =
    let else-out-bytes = c.before.before.before.before.before in
    let else-not-standing = else-out-bytes.before in
    omega (arith, (active else-not-standing).long)

returns-3 : tie.Need-returns
returns-3 c =
    let at-out = c.before.before.before.before.before in
    let else-not-standing = at-out.before.before.before.before in
    let h = c.inspect_source-standing.result in
    meets _ _ _ _
    (close-held source assemblable-source _ _ _ _ (active else-not-standing) c.if-out-bytes.false
    ∙ ap₂ (λ (x y : List ℕ). record { answer = Ok h.rules; state = x; buffer = y }) (sym c.put_byte.ensures) (sym c.write_end.ensures))

pub close_state_spec : {M : Type 1} → statement M
close_state_spec =
    tie.close (tie.spec (λ c κs. search rules) (λ c κs. search rules) (λ c. search rules) returns add-if2 (λ c κs. search rules)
    (λ c. search rules) returns-2 cast-write-end (λ c κs. search rules) put-byte-requires (λ c. search rules) (λ c. search rules) returns-3)
