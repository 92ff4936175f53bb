-- `call::drop_last` meets its contract: no open assembly, no rule, or one rule less.
-- Assumes nothing.
use Prim.Native.Nat.{ℕ, ◌-◌}
use Rattle.std.specs.Prelude.{Ok}
use native.Mathlib.Omega.{arith}
use mathlib.Core.Path.{◌≡◌, sym, ap, ◌∙◌}
use mathlib.Core.List.{List, []}
use borrow.Author.Rules.{rules}
use borrow.Author.Tests.{not-true, not-false}
use Rattle.buffer.specs.Bytes.{Bytes}
use Rattle.literal.specs.declared.Limits.{Limits}
use Rattle.literal.specs.Limits.{source}
use Rattle.assembly.specs.declared.Standing.{Standing}
use Rattle.assembly.specs.State.{stage_of}
use Rattle.assembly.specs.Code.{standing_of, with_shape}
use Rattle.assembly.proofs.Laws.Turn.{Active, active-state, idle-drop, drop-none, drop-held}
use Rattle.assembly.proofs.Laws.Forms.{assemblable-source}
use Rattle.assembly_call.proofs.Laws.Calls.{keeps, refused-keeps}
use Rattle.assembly_call.proofs.call.drop_last.Statement.{statement}
use Rattle.assembly_call.proofs.call.drop_last.Tie as tie

-- what the state says
standing : (c : tie.After-inspect_source-standing) → c.inspect_source-standing.result ≡ standing_of (stage_of source c.args.state.now)
standing c = c.inspect_source-standing.ensures

-- its elements are bytes
bytes : (c : tie.After-inspect_source-standing) → Bytes c.args.state.now
bytes c i = (c.slice_known-1.given i).fits

active : (c : tie.Else-not-standing) → (let h = c.inspect_source-standing.result in Active source c.args.state.now h.rules h.bytes)
active c =
    active-state source assemblable-source c.args.state.now (bytes c.before.before) c.inspect_source-standing.result (standing c.before.before) (not-false _ c.if-not-standing.false)

returns : tie.Need-returns-then-not-standing
returns c =
    refused-keeps _ _ _ _ [] (idle-drop source _ [] (sym (ap (λ (h : Standing). h.active) (standing c.before.before.before)) ∙ not-true _ c.if-not-standing.true)) c.refuse.ensures

returns-2 : tie.Need-returns-then-rules-eq0
returns-2 c =
    refused-keeps _ _ _ _ [] (drop-none source assemblable-source _ [] _ _ (active c.before.before) c.if-rules-eq0.true) c.refuse-then-rules-eq0.ensures

-- how many rules the form takes
rules-of : (c : tie.After-limits) → c.limits.result.rules ≡ source.rules
rules-of c = ap (λ (F : Limits). F.rules) c.limits.ensures

put-shape-requires : tie.Need-put_shape-requires
put-shape-requires c κs =
    let w = active c.before.before.before in
    let n = rules-of c.before in
    let few = assemblable-source.rules in (
      omega (arith, w.few, few),
      (omega (arith, w.few, n, c.if-rules-eq0.false), omega (arith, w.long, n)),
    )

returns-3 : tie.Need-returns
returns-3 c =
    let else-rules-eq0 = c.before.before.before.before.before in
    let else-not-standing = else-rules-eq0.before in
    let h = c.inspect_source-standing.result in
    let st = c.args.state.now in
    keeps _ _ _ []
    (drop-held source assemblable-source st [] _ _ (active else-not-standing) (omega (arith, c.if-rules-eq0.false))
    ∙ ap (λ (x : List ℕ). record { answer = Ok (h.rules - 1); state = x; buffer = [] })
    (sym (c.put_shape.ensures ∙ ap (λ (F : Limits). with_shape F st (h.rules - 1) (h.rules - 1) 0 0) c.limits.ensures)))

pub drop_last_spec : {M : Type 1} → statement M
drop_last_spec =
    tie.close (tie.spec (λ c κs. search rules) (λ c κs. search rules) (λ c. search rules) returns (λ c κs. search rules)
    (λ c. search rules) returns-2 (λ c. omega (arith, c.if-rules-eq0.false)) (λ c κs. search rules) put-shape-requires (λ c. search rules) returns-3)
