-- `inspect::inspect`: a test that fails, or what the state says.
-- Assumes nothing.
use Rattle.std.proofs.Common.{sym, ap, ◌∙◌, arith}
use Rattle.assembly_state.specs.Code.{clear_behind}
use Rattle.assembly_state.proofs.Laws.Inspect.{headed-by, tallied-told, header-none, shapes-none, clear_none, said}
use Rattle.assembly_state.proofs.inspect.inspect.Goals as goal

pub returns-then-not-is_headed : goal.returns-then-not-is_headed
returns-then-not-is_headed c = c.stand_before.ensures ∙ header-none _ _ (sym c.is_headed.ensures ∙ c.if-not-is_headed.true)

pub get_number-rules-requires : goal.get_number-rules-requires
get_number-rules-requires c = let h = headed-by c.is_headed.ensures c.if-not-is_headed.false in omega (arith, h.long)

pub tally_shapes-shapes-requires-clause-rules_le_rules : goal.tally_shapes-shapes-requires-clause-rules_le_rules
tally_shapes-shapes-requires-clause-rules_le_rules c = let h = headed-by c.is_headed.ensures c.if-not-is_headed.false in omega (arith, h.count, c.get_number-rules.ensures)

pub tally_shapes-shapes-requires-clause-rules_in_bounds : goal.tally_shapes-shapes-requires-clause-rules_in_bounds
tally_shapes-shapes-requires-clause-rules_in_bounds c = let h = headed-by c.is_headed.ensures c.if-not-is_headed.false in omega (arith, h.long)

pub returns-then-not-is_within : goal.returns-then-not-is_within
returns-then-not-is_within c =
    let t = tallied-told c.tally_shapes-shapes.ensures c.get_number-rules.ensures in
    c.stand_before-then-not-is_within.ensures ∙ shapes-none _ _ (t.each ∙ sym c.is_within.ensures ∙ c.if-not-is_within.true)

pub is_clear_behind-requires-clause-rules_le_rules : goal.is_clear_behind-requires-clause-rules_le_rules
is_clear_behind-requires-clause-rules_le_rules c = let h = headed-by c.is_headed.ensures c.if-not-is_headed.false in omega (arith, h.count, c.get_number-rules.ensures)

pub is_clear_behind-requires-clause-rules_in_bounds : goal.is_clear_behind-requires-clause-rules_in_bounds
is_clear_behind-requires-clause-rules_in_bounds c = let h = headed-by c.is_headed.ensures c.if-not-is_headed.false in omega (arith, h.long)

pub returns-then-not-is_clear_behind : goal.returns-then-not-is_clear_behind
returns-then-not-is_clear_behind c =
    let told = c.is_clear_behind.ensures ∙ ap (clear_behind c.args.lim c.args.state.now) c.get_number-rules.ensures in
    c.stand_before-then-not-is_clear_behind.ensures ∙ clear_none _ _ (sym told ∙ c.if-not-is_clear_behind.true)

pub bounds-state-0 : goal.bounds-state-0
bounds-state-0 c = let h = headed-by c.is_headed.ensures c.if-not-is_headed.false in omega (arith, h.long)

pub returns : goal.returns
returns c =
    let told = c.is_clear_behind.ensures ∙ ap (clear_behind c.args.lim c.args.state.now) c.get_number-rules.ensures in
    let t = tallied-told c.tally_shapes-shapes.ensures c.get_number-rules.ensures in
    said _ _ (sym c.is_headed.ensures ∙ c.if-not-is_headed.false) (t.each ∙ sym c.is_within.ensures ∙ c.if-not-is_within.false)
    (sym told ∙ c.if-not-is_clear_behind.false) _ t _ c.get_number-rules.ensures
