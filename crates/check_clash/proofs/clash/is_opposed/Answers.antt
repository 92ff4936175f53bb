-- `clash::is_opposed` meets its contract: a mark has no opposite, and that of an atom is searched.
use Rattle.std.proofs.Common.{sym, ◌∙◌, ap, get_or, arith}
use Rattle.literal.specs.declared.SignedAtom.{SignedAtom}
use Rattle.literal.specs.declared.Literal.TheVariants.{Signed}
use Rattle.literal.specs.Literal.{opposite, signed_atom}
use Rattle.set.specs.Code.{has_key, key_set}
use Rattle.check_clash.proofs.Laws.Clash.{opposed-mark, opposed-signed}
use Rattle.check_clash.proofs.clash.is_opposed.Goals as goal

pub returns-then-kind-gt1 : goal.returns-then-kind-gt1
returns-then-kind-gt1 c = let s = c.args.set in sym (opposed-mark s.bytes.now s.count c.args.t.now (omega (arith, c.if-kind-gt1.true)))

pub returns : goal.returns
returns c =
    let s = c.args.set in
    let t = c.args.t.now in
    let atom = c.sign-atom.ensures ∙ ap (signed_atom (get_or t 0 0)) c.get_atom.ensures in
    c.has_key.ensures
    ∙ ap (has_key s.bytes.now s.count) c.key_of.ensures
    ∙ ap (λ (x : SignedAtom). key_set s.bytes.now s.count (Signed x)) (c.oppose.ensures ∙ ap opposite atom)
    ∙ sym (opposed-signed s.bytes.now s.count t (omega (arith, c.if-kind-gt1.false)))
