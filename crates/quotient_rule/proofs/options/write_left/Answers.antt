-- `options::write_left` meets its contract: each option is passed, or written behind those found.
use Rattle.std.proofs.Common.{◌≡◌, ℕ, ◌+◌, ◌*◌, ◌-◌, ◌≤◌, List, ◌∷◌, sym, ◌∙◌, ap, ap₂, length, arith}
use Rattle.buffer.specs.Write.{write}
use Rattle.literal.specs.declared.Literal.{Literal}
use Rattle.literal.specs.declared.Literal.TheVariants.{Signed}
use Rattle.literal.specs.Literal.{encoded}
use Rattle.record.specs.Layout.{encoded_literals}
use Rattle.quotient_rule.proofs.Laws.Left.{left-passed, left-taken, left-none}
use Rattle.quotient_rule.proofs.Laws.Options.{write-none, write-first}
use Rattle.quotient_rule.proofs.options.write_left.Goals as goal
use Rattle.quotient_rule.proofs.options.write_left.Goals.{then-not-is_defeated, else-not-is_defeated}

-- a literal more is written behind those found
written-more : (d out new : List ℕ) (to found found' : ℕ) (all rest more : List Literal) (l : Literal) → rest ≡ l ∷ more
    → write d to (encoded_literals all) ≡ write out (to + 5 * found) (encoded_literals rest) → to + 5 * found ≤ length out
    → new ≡ write out (to + 5 * found) (encoded l) → found' ≡ found + 1 → write d to (encoded_literals all) ≡ write new (to + 5 * found') (encoded_literals more)
written-more d out new to found found' all rest more l r e h n f =
    e ∙ ap (λ ls. write out (to + 5 * found) (encoded_literals ls)) r ∙ write-first out (to + 5 * found) l more h
    ∙ ap₂ (λ (o : List ℕ) (at : ℕ). write o at (encoded_literals more)) (sym n) (omega arith)

pub encode-requires : goal.encode-requires
encode-requires c =
    let s = c.args.set in
    let l = c.loop-i in
    let first =
    ap length (left-taken c.args.t.now s.bytes.now s.count 7 c.args.heads l.i c.loop-i-test.true (sym c.is_defeated.ensures ∙ c.if-not-is_defeated.true)) in
    omega (arith, first, l.invariant.found, c.requires.heads_in_bounds_2 (omega (arith, first, l.invariant.found)), l.auto.out)

pub loop-i-preserved : goal.loop-i-preserved
loop-i-preserved c =
    let t = c.args.t.now in
    let s = c.args.set in
    let n = c.args.heads in
    let l = c.loop-i in
    let lt = c.loop-i-test.true in
    let e = sym c.is_defeated.ensures in
    elim c.if-not-is_defeated.branch [
      | then-not-is_defeated w ↦
          let first = left-taken t s.bytes.now s.count 7 n l.i lt (e ∙ w.if-not-is_defeated.true) in
          record {
            few = omega arith;
            found = omega (arith, ap length first, l.invariant.found);
            written = written-more c.args.out.now l.out _ c.args.to l.found _ _ _ _ _ first c.loop-i.invariant.written
                (omega (arith, ap length first, l.invariant.found, c.requires.heads_in_bounds_2 (omega (arith, ap length first, l.invariant.found)), l.auto.out))
                (w.out-is ∙ w.encode.ensures ∙ ap (λ o. write l.out (c.args.to + 5 * l.found) (encoded (Signed o))) w.option_at-option.ensures)
                w.found-is;
          }
      | else-not-is_defeated w ↦
          let same = left-passed t s.bytes.now s.count 7 n l.i lt (e ∙ w.if-not-is_defeated.false) in
          record {
            few = omega arith;
            found = omega (arith, ap length same, l.invariant.found);
            written = rw (w.out-is, w.found-is) (l.invariant.written ∙ ap (λ ls. write l.out (c.args.to + 5 * l.found) (encoded_literals ls)) same);
          }
    ]

pub returns-clause-value : goal.returns-clause-value
returns-clause-value c =
    let s = c.args.set in
    let none = left-none c.args.t.now s.bytes.now s.count (7 + 5 * c.loop-i.i) (c.args.heads - c.loop-i.i) (omega arith) in
    omega (arith, c.loop-i.invariant.found, ap length none)

pub returns-clause-out_after : goal.returns-clause-out_after
returns-clause-out_after c =
    let s = c.args.set in
    let l = c.loop-i in
    let none = left-none c.args.t.now s.bytes.now s.count (7 + 5 * l.i) (c.args.heads - l.i) (omega arith) in
    sym (l.invariant.written ∙ ap (λ ls. write l.out (c.args.to + 5 * l.found) (encoded_literals ls)) none ∙ write-none l.out (c.args.to + 5 * l.found))
