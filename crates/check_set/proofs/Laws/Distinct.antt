-- Literals in ascending order are distinct. Assumes nothing.
use native.Mathlib.Omega.{arith}
use mathlib.Core.Path.{sym, subst}
use mathlib.Core.List.{List, [], ◌∷◌, Memᴰ}
use lib.Dec.{T, ltb→lt, lt→ltb}
use Rattle.literal.specs.declared.Literal.{Literal}
use Rattle.literal.specs.Order.{key, before}
use Rattle.semantics.proofs.Laws.Tests.{first, second}
use Rattle.set.specs.Layout.{ascending}
use Rattle.check_force.proofs.Laws.Build.{distinct, distinct-below}

before-trans : (l m n : Literal) → T (before l m) → T (before m n) → T (before l n)
unfolding before
before-trans l m n s t = lt→ltb (key l) (key n) (omega (arith, ltb→lt (key l) (key m) s, ltb→lt (key m) (key n) t))

-- a literal is before each one behind it
ascending-before : (m l : Literal) (ls : List Literal) → T (ascending (l ∷ ls)) → Memᴰ m ls → T (before l m)
unfolding ascending
ascending-before m l ls t (Memᴰ.head {x} {xs} e) = subst (λ (n : Literal). T (before l n)) (sym e) (first (before l x) (ascending (x ∷ xs)) t)
ascending-before m l ls t (Memᴰ.tail {x} {xs} w) =
    before-trans l x m (first (before l x) (ascending (x ∷ xs)) t) (ascending-before m x xs (second (before l x) (ascending (x ∷ xs)) t) w)

ascending-behind : (l : Literal) (ls : List Literal) → T (ascending (l ∷ ls)) → T (ascending ls)
unfolding ascending
ascending-behind l [] t = tt
ascending-behind l (m ∷ ls) t = second (before l m) (ascending (m ∷ ls)) t

pub ascending-distinct : (ls : List Literal) → T (ascending ls) → T (distinct ls)
unfolding distinct
ascending-distinct [] t = tt
ascending-distinct (l ∷ ls) t = distinct-below l ls (λ m. ascending-before m l ls t) (ascending-distinct ls (ascending-behind l ls t))
