-- `Positions::mask_heads` meets its contract: a literal's position more.
use Rattle.std.proofs.Common.{◌+◌, ◌*◌, sym, ◌∙◌, ap, arith}
use Rattle.std.proofs.lemmas.List.{take_rest}
use Rattle.literal.specs.Code.{key_at}
use Rattle.check_clauses.specs.Code.{key_mask}
use Rattle.check_clauses.proofs.Laws.Union.{positions-step, positions-end}
use Rattle.check_clauses.proofs.masks.Positions.mask_heads.Goals as goal

pub loop-i-preserved : goal.loop-i-preserved
loop-i-preserved c =
    let s = c.args.self.set in
    let t = c.args.t.now in
    let i = c.loop-i.i in
    let one = c.mask_of-mask.ensures ∙ ap (key_mask s.bytes.now s.count) (c.key_at.ensures ∙ ap key_at (take_rest t (c.args.from + 5 * i))) in
    c.loop-i.invariant ∙ positions-step s.bytes.now s.count t c.args.n i c.args.from c.loop-i-test.true c.loop-i.mask _ one

pub returns : goal.returns
returns c =
    let s = c.args.self.set in
    sym (c.loop-i.invariant ∙ positions-end s.bytes.now s.count c.args.t.now _ _ c.loop-i.mask (omega arith))
