-- `Positions::mask_positives` meets its contract: a literal's position more, or none where it is not in the set.
use Rattle.std.proofs.Common.{◌≡◌, ℕ, ◌-◌, List, length, take, drop, sym, ◌∙◌, ap, Some, arith}
use Rattle.std.proofs.lemmas.List.{take_rest}
use Rattle.literal.specs.Code.{key_at}
use Rattle.check_clauses.specs.Code.{key_mask}
use Rattle.check_clauses.proofs.Laws.Position.{key-mask-empty, key-mask-filled}
use Rattle.check_clauses.proofs.Laws.Union.{positions-step, positions-end, all-missing, all-step, all_end, positions-missing, positions-whole}
use Rattle.check_clauses.proofs.masks.Positions.mask_positives.Goals as goal

-- the mask of the literal at a place
masked : (s : List ℕ) (n : ℕ) (t : List ℕ) (at k : ℕ) {m : ℕ} → m ≡ key_mask s n k → k ≡ key_at (take (length t - at) (drop at t)) → m ≡ key_mask s n (key_at (drop at t))
masked s n t at k e f = e ∙ ap (key_mask s n) (f ∙ ap key_at (take_rest t at))

pub returns-then-one-eq0 : goal.returns-then-one-eq0
returns-then-one-eq0 c =
    let s = c.args.self.set in
    let t = c.args.t.now in
    let one = masked s.bytes.now s.count t _ _ c.mask_of-one.ensures c.key_at.ensures in
    sym (positions-missing s.bytes.now s.count _ (c.loop-i.invariant.1 ∙ all-missing s.bytes.now s.count t _ _ (omega arith)
    (key-mask-empty s.bytes.now _ s.count (sym one ∙ c.if-one-eq0.true))))

pub loop-i-preserved : goal.loop-i-preserved
loop-i-preserved c =
    let s = c.args.self.set in
    let t = c.args.t.now in
    let i = c.loop-i.i in
    let one = masked s.bytes.now s.count t _ _ c.mask_of-one.ensures c.key_at.ensures in (
      c.loop-i.invariant.0 ∙ positions-step s.bytes.now s.count t c.args.n i c.args.from c.loop-i-test.true c.loop-i.mask _ one,
      c.loop-i.invariant.1 ∙ all-step s.bytes.now s.count t c.args.n i c.args.from c.loop-i-test.true
          (key-mask-filled s.bytes.now _ s.count (λ e. c.if-one-eq0.false (one ∙ e))),
    )

pub returns : goal.returns
returns c =
    let s = c.args.self.set in
    let t = c.args.t.now in
    sym (positions-whole s.bytes.now s.count _ (c.loop-i.invariant.1 ∙ all_end s.bytes.now s.count t _ _ (omega arith))
    ∙ ap (λ m. Some m) (c.loop-i.invariant.0 ∙ positions-end s.bytes.now s.count t _ _ c.loop-i.mask (omega arith)))
