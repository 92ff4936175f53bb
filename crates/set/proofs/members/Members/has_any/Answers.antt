-- `Members::has_any`: the literals one by one.
use Rattle.std.proofs.Common.{◌≡◌, ℕ, ◌-◌, Bool, List, length, take, drop, sym, ◌∙◌, ap, arith}
use Rattle.std.proofs.lemmas.List.{take_rest}
use Rattle.literal.specs.Code.{key_at}
use Rattle.set.specs.Code.{has_key}
use Rattle.set.proofs.Laws.Member.{any-key-first, any-key-step, any-key-none}
use Rattle.set.proofs.members.Members.has_any.Goals as goal

-- what the search found of the literal at a place
found : (s t : List ℕ) (n at k : ℕ) {r : Bool} → r ≡ has_key s n k → k ≡ key_at (take (length t - at) (drop at t)) → has_key s n (key_at (drop at t)) ≡ r
found s t n at k e f = sym (e ∙ ap (has_key s n) (f ∙ ap key_at (take_rest t at)))

pub returns-then-has_key : goal.returns-then-has_key
returns-then-has_key c =
    let s = c.args.self in
    sym (c.loop-i.invariant ∙ any-key-first s.bytes.now s.count c.args.t.now _ _ (omega arith) (found s.bytes.now c.args.t.now s.count _ _ c.has_key.ensures c.key_at.ensures ∙ c.if-has_key.true))

pub loop-i-preserved : goal.loop-i-preserved
loop-i-preserved c =
    let s = c.args.self in
    c.loop-i.invariant
    ∙ any-key-step s.bytes.now s.count c.args.t.now c.args.n c.loop-i.i c.args.from c.loop-i-test.true (found s.bytes.now c.args.t.now s.count _ _ c.has_key.ensures c.key_at.ensures ∙ c.if-has_key.false)

pub returns : goal.returns
returns c =
    let s = c.args.self in
    sym (c.loop-i.invariant ∙ any-key-none s.bytes.now s.count c.args.t.now _ _ (omega arith))
