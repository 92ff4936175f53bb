-- `call::hold_record` meets its contract: no room, or the record written and its shape held.
-- Assumes nothing.
use Prim.Native.Nat.{ℕ, ◌+◌}
use Rattle.std.specs.Prelude.{Ok}
use native.Mathlib.Omega.{arith}
use mathlib.Core.Path.{sym, ap, ap₂, ◌∙◌}
use mathlib.Core.List.{List}
use borrow.Author.Rules.{rules}
use Rattle.literal.specs.declared.Limits.{Limits}
use Rattle.literal.specs.Limits.{source}
use Rattle.record.proofs.Laws.Only.{Added, only-added}
use Rattle.assembly.specs.State.{shape_of, body_byte}
use Rattle.assembly.specs.Code.{with_shape}
use Rattle.assembly.proofs.Laws.Turn.{Active, active-state, add-short, add-held}
use Rattle.assembly.proofs.Laws.Forms.{assemblable-source, Small, added-small}
use Rattle.assembly_call.proofs.Laws.Calls.{meets, refused-meets}
use Rattle.assembly_call.proofs.call.hold_record.Statement.{statement}
use Rattle.assembly_call.proofs.call.hold_record.Tie as tie

-- the state is open, and its elements are bytes
active : (c : tie.After-slice_known-2-1) → (let a = c.args in Active source a.state.now a.held.rules a.held.bytes)
active c =
    active-state source assemblable-source c.args.state.now (λ i. (c.slice_known-1.given i).fits) c.args.held c.requires.0 c.requires.1.0

-- the record was read, and its figures are small
added : (c : tie.After-slice_known-2-1) → (let a = c.args in Added source a.held.rules a.rule.now a.size)
added c = only-added source _ c.args.rule.now _ c.requires.1.1

small : (c : tie.After-slice_known-2-1) → (let a = c.args in Small a.rule.now a.size)
small c = added-small source assemblable-source _ _ _ (λ i. (c.shared_slice_known-1.given i).fits) (added c)

add-end : tie.Need-overflow_add-end
add-end c = let w = active c in omega (arith, w.small, w.few, assemblable-source.rules, (small c).most)

add-if1 : tie.Need-overflow_add-end-2
add-if1 c = let w = active c in omega (arith, w.small, w.few, assemblable-source.rules, (small c).most)

returns : tie.Need-returns-then-out-end
returns c =
    refused-meets _ _ _ _ _ (add-short source assemblable-source _ _ _ _ (active c.before.before) _ _ c.requires.1.1 c.if-out-end.true) c.refuse.ensures

copy-requires : tie.Need-copy-requires
copy-requires c κs = (omega (arith, (small c.before.before).fits), omega (arith, c.if-out-end.false))

heads-byte-requires : tie.Need-heads_byte-heads-requires
heads-byte-requires c κs =
    let at-slice_known-2 = c.before.before.before.before.before in
    let w = small at-slice_known-2 in
    (omega (arith, w.whole, w.fits), w.heads)

read-body : tie.Need-bounds-rule-5
read-body c =
    let at-copy-arg = c.before.before.before.before.before in
    let at-slice_known-2 = at-copy-arg.before.before in
    let w = small at-slice_known-2 in omega (arith, w.whole, w.fits)

read-body-2 : tie.Need-bounds-rule-6
read-body-2 c =
    let at-copy = c.before.before.before.before.before in
    let at-slice_known-2 = at-copy.before.before.before in
    let w = small at-slice_known-2 in omega (arith, w.whole, w.fits)

add_body : tie.Need-overflow_add-body
add_body c =
    let at-copy = c.before.before.before.before.before in
    let at-slice_known-2 = at-copy.before.before.before in
    omega (arith, (small at-slice_known-2).body)

add-rules : tie.Need-overflow_add-rules
add-rules c =
    let at-copy = c.before.before.before.before.before in
    let at-slice_known-2 = at-copy.before.before.before in
    omega (arith, (active at-slice_known-2).few, assemblable-source.rules)

put-shape-requires : tie.Need-put_shape-requires
put-shape-requires c κs =
    let at-slice_known-3 = c.before.before.before.before.before in
    let at-slice_known-2 = at-slice_known-3.before.before.before.before.before in
    let w = active at-slice_known-2 in
    let n = ap (λ (F : Limits). F.rules) c.limits.ensures in (
      omega (arith, w.few, assemblable-source.rules),
      (omega (arith, (added at-slice_known-2).room, n), omega (arith, w.long, n)),
    )

returns-2 : tie.Need-returns
unfolding shape_of
returns-2 c =
    let at-shared_slice_known-3 = c.before.before.before.before.before in
    let at-copy = at-shared_slice_known-3.before.before.before.before.before in
    let at-slice_known-2 = at-copy.before.before.before in
    let a = c.args in
    let n = a.held.rules in
    meets _ _ _ _
    (add-held source assemblable-source a.state.now a.out.now n a.held.bytes (active at-slice_known-2) a.rule.now a.size c.requires.1.1
    c.if-out-end.false (added at-slice_known-2).room
    ∙ ap₂ (λ (x y : List ℕ). record { answer = Ok (n + 1); state = x; buffer = y })
    (sym (c.put_shape.ensures
    ∙ ap₂ (λ (F : Limits) (b : ℕ). with_shape F a.state.now (n + 1) n b (body_byte (shape_of a.rule.now))) c.limits.ensures c.heads_byte-heads.ensures))
    (sym c.copy.ensures))

pub hold_record_spec : {M : Type 1} → statement M
hold_record_spec =
    tie.close (tie.spec add-end add-if1 (λ c κs. search rules) returns copy-requires heads-byte-requires read-body read-body-2 add_body add-rules
    (λ c κs. search rules) put-shape-requires (λ c. search rules) (λ c. search rules) returns-2)
