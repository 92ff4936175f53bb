-- `marks::add_rule` meets its contract: a strict rule, one all of whose options are defeated, or one with others.
use Rattle.std.proofs.Common.{sym, ◌∙◌}
use Rattle.set.specs.Code.{key_set}
use Rattle.extend_marks.proofs.Laws.Rule.{gained-strict, gained-defeated, gained-open}
use Rattle.extend_marks.proofs.marks.add_rule.Goals as goal

pub returns-then-part-ne68 : goal.returns-then-part-ne68
returns-then-part-ne68 c =
    let a = c.args in
    gained-strict (key_set a.set.bytes.now a.set.count) a.number.0 a.part.now a.keys.now a.n c.if-part-ne68.true

pub returns-then-is_defeated : goal.returns-then-is_defeated
returns-then-is_defeated c =
    let a = c.args in
    gained-defeated (key_set a.set.bytes.now a.set.count) a.number.0 a.part.now a.keys.now a.n c.key_of.result c.if-part-ne68.false
    (sym c.is_defeated.ensures ∙ c.if-is_defeated.true) c.key_of.ensures (c.requires.roomy c.if-part-ne68.false).1

pub returns : goal.returns
returns c =
    let a = c.args in
    gained-open (key_set a.set.bytes.now a.set.count) a.number.0 a.part.now a.keys.now a.n c.if-part-ne68.false
    (sym c.is_defeated.ensures ∙ c.if-is_defeated.false) c.add_options.ensures
