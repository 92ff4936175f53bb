-- `heads::mark_rule` meets its contract: a strict rule, or a defeasible one.
-- Assumes nothing.
use Prim.Native.Nat.{◌<◌}
use native.Mathlib.Omega.{arith}
use mathlib.Core.Path.{ap}
use lib.ListN.{length}
use borrow.Author.Rules.{rules}
use Rattle.literal.specs.declared.Tag.{Tag}
use Rattle.expand_heads.specs.Code.{Places}
use Rattle.expand_heads.proofs.Laws.Heads.{head-strict, head-defeasible}
use Rattle.expand_heads.proofs.heads.mark_rule.Statement.{statement}
use Rattle.expand_heads.proofs.heads.mark_rule.Tie as tie

places : (c : tie.After-tag_at-t) → Places c.args.part.now (length c.args.up.now) (length c.args.win.now)
places c = c.requires.1.0 c.if-part-ne68.false

within : (c : tie.After-tag_at-t) → c.tag_at-t.result.0 < length c.args.up.now
within c = omega (arith, ap (λ (t : Tag). t.0) c.tag_at-t.ensures, (places c).tag)

returns : tie.Need-returns-then-part-ne68
returns c =
    let a = c.args in
    head-strict a.part.now a.up.now a.low.now a.win.now a.lose.now c.if-part-ne68.true

mark-options-requires : tie.Need-mark_options-requires
mark-options-requires c κs =
    let at-tag_at-t = c.before.before.before.before.before in
    let p = c.requires in
    (p.0, ((places at-tag_at-t).each, p.1.1.1))

returns-2 : tie.Need-returns
returns-2 c =
    let a = c.args in
    head-defeasible a.part.now a.up.now a.low.now a.win.now a.lose.now _ _ c.tag_at-t.result.0 c.if-part-ne68.false
    (ap (λ (t : Tag). t.0) c.tag_at-t.ensures) c.mark_options.ensures.0 c.mark_options.ensures.1

pub mark_rule_spec : {M : Type 1} → statement M
mark_rule_spec =
    tie.close (tie.spec (λ c. search rules) returns (λ c κs. search rules) (λ c. search rules) (λ c. omega (arith, within c.before))
    (λ c. omega (arith, within c.before.before)) (λ c. omega (arith, within c.before.before))
    (λ c. omega (arith, within c.before.before.before)) mark-options-requires (λ c. search rules) (λ c. search rules) returns-2)
