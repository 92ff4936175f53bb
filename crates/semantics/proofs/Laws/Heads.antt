-- An answer set holds literals of heads alone. Assumes nothing.
use Prim.Native.Nat.{ℕ}
use mathlib.Core.Bool.{Bool, ◌&&◌}
use mathlib.Core.List.Memᴰ
use mathlib.Core.List.{List, Memᴰ}
use lib.Dec.{T}
use Rattle.literal.specs.declared.Literal.{Literal}
use Rattle.literal.specs.declared.Literal.TheVariants.{Signed}
use Rattle.semantics.specs.Set.{LiteralSet, some_of, each_of, set_of}
use Rattle.semantics.specs.Rule.{Rule, strict, defeasible, Program, head}
use Rattle.semantics.specs.Meaning.{quotient, models, AnswerSet}
use Rattle.semantics.proofs.Laws.Tests.{both, first, second, any-mem, any_found, all-intro, all-mem}
use Rattle.semantics.proofs.Laws.Set.{set-of-mem, mem-set-of}
use Rattle.semantics.proofs.Laws.Meaning.{Kept, answer-set-contains}
use Rattle.semantics.proofs.Laws.Position.{At, models-at, at-models, at_mem}

-- l stands in a head of p
heads : Program → Literal → Bool
heads p l = some_of (λ r. set_of (head r) l) p

at-heads : {n : ℕ} {r : Rule} {k : ℕ} {p : Program} {l : Literal} → At n r k p → Memᴰ l (head r) → T (heads p l)
unfolding heads
at-heads {l} at m = any-mem (λ r. set_of (head r) l) (at_mem at) (set-of-mem m)

-- the literals of s that stand in heads
among : Program → LiteralSet → LiteralSet
among p s l = s l && heads p l

among-all : (p : Program) (s : LiteralSet) (b : List Literal) → T (each_of (among p s) b) → T (each_of s b)
unfolding among
among-all p s b y = all-intro s b (λ l m. first (s l) (heads p l) (all-mem (among p s) y m))

-- they are a model of the quotient by s, where s is one
among-models : (p : Program) (s : LiteralSet) → T (models (quotient p s) s) → T (models (quotient p s) (among p s))
unfolding among head
among-models p s y = at-models 1 p s (among p s) (λ n r at. go n r at (models-at 1 s s y at))
  where
    go : (n : ℕ) (r : Rule) → At n r 1 p → Kept r s s → Kept r s (among p s)
    go n (strict h b c) at k =
        λ absent body.
        let w = any_found s h (k absent (among-all p s b body)) in
        any-mem (among p s) w.1 (both (s w.0) (heads p w.0) w.2 (at-heads at w.1))
    go n (defeasible t h b c) at k =
        λ absent left body.
        let w = k absent left (among-all p s b body) in
        (w.0, w.1, w.2, both (s (Signed w.0)) (heads p (Signed w.0)) w.3 (at-heads at (Memᴰ.map Signed w.1)))

-- a literal of an answer set stands in the head of a rule
pub answer-set-head : {p : Program} {s : LiteralSet} → AnswerSet p s → (l : Literal) → T (s l) → (r : Rule) × Memᴰ r p × Memᴰ l (head r)
unfolding among heads
answer-set-head {p} {s} a l y =
    let z = second (s l) (heads p l) (answer-set-contains a (among p s) (λ m q. first (s m) (heads p m) q) (among-models p s a.model) l y) in
    let w = any_found (λ r. set_of (head r) l) p z in
    (w.0, w.1, mem-set-of l (head w.0) w.2)
