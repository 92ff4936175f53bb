-- Laws of the literals that occur in a program.
-- In order: a rule's literals occur; an answer set's literals do; those of rules within a form's limits are the form's.
-- Assumes nothing.
use mathlib.Core.List.{List, [], ◌∷◌, ◌++◌, Memᴰ}
use mathlib.Core.Path.{subst, sym}
use lib.Dec.{T}
use Rattle.literal.specs.declared.Limits.{Limits}
use Rattle.literal.specs.declared.Literal.{Literal}
use Rattle.literal.specs.Literal.{takes}
use Rattle.semantics.specs.Set.{LiteralSet, each_of, same_literal, set_of, Subset}
use Rattle.semantics.specs.Rule.{Rule, Program, head, positive, naf}
use Rattle.semantics.specs.Meaning.{AnswerSet}
use Rattle.semantics.specs.Form.{keeps_rule}
use Rattle.semantics.proofs.Laws.Tests.{both, first, second, left, right, along, any_append, all_append}
use Rattle.semantics.proofs.Laws.Set.{set-of-mem}
use Rattle.semantics.proofs.Laws.Heads.{answer-set-head}
use Rattle.semantics.proofs.Laws.Form.{kept}
use Rattle.aspif_meaning.specs.Numbering.{rule_literals, occurring}

-- a literal of the first list, or of the second, is one of both
pub in_left : (l : Literal) (xs ys : List Literal) → T (set_of xs l) → T (set_of (xs ++ ys) l)
in_left l xs ys t = along (sym (any_append (same_literal l) xs ys)) (left (set_of xs l) (set_of ys l) t)

pub in_right : (l : Literal) (xs ys : List Literal) → T (set_of ys l) → T (set_of (xs ++ ys) l)
in_right l xs ys t = along (sym (any_append (same_literal l) xs ys)) (right (set_of xs l) (set_of ys l) t)

-- a rule's literals occur in its program
pub occurs-rule : {r : Rule} {p : Program} → Memᴰ r p → (l : Literal) → T (set_of (rule_literals r) l) → T (set_of (occurring p) l)
unfolding occurring
occurs-rule (Memᴰ.head {x = q} {xs = p} e) l t =
    in_left l (rule_literals q) (occurring p) (subst (λ (y : Rule). T (set_of (rule_literals y) l)) e t)
occurs-rule (Memᴰ.tail {x = q} {xs = p} m) l t = in_right l (rule_literals q) (occurring p) (occurs-rule m l t)

module _ {r : Rule} {p : Program} (m : Memᴰ r p) where
  -- those of its head, its positive body and under naf
  pub occurs-head : (l : Literal) → Memᴰ l (head r) → T (set_of (occurring p) l)
  unfolding rule_literals
  occurs-head l w = occurs-rule m l (in_left l (head r) (positive r ++ naf r) (set-of-mem w))

  pub occurs-positive : (l : Literal) → Memᴰ l (positive r) → T (set_of (occurring p) l)
  unfolding rule_literals
  occurs-positive l w = occurs-rule m l (in_right l (head r) (positive r ++ naf r) (in_left l (positive r) (naf r) (set-of-mem w)))

  pub occurs-naf : (l : Literal) → Memᴰ l (naf r) → T (set_of (occurring p) l)
  unfolding rule_literals
  occurs-naf l w = occurs-rule m l (in_right l (head r) (positive r ++ naf r) (in_right l (positive r) (naf r) (set-of-mem w)))

-- an answer set holds literals that occur
pub answer-set-occurs : (p : Program) (s : LiteralSet) → AnswerSet p s → Subset s (set_of (occurring p))
answer-set-occurs p s a l t = let w = answer-set-head a l t in occurs-head w.1 l w.2

-- where a form's limits are kept, each literal that occurs is one of the form's
pub occurring-taken : (F : Limits) (p : Program) → T (each_of (keeps_rule F) p) → T (each_of (takes F) (occurring p))
unfolding occurring rule_literals
occurring-taken F [] k = tt
occurring-taken F (r ∷ p) k =
    let w = kept F r (first (keeps_rule F r) (each_of (keeps_rule F) p) k) in
    join (rule_literals r) (occurring p)
    (join (head r) (positive r ++ naf r) w.head-taken (join (positive r) (naf r) w.positive-taken w.naf-taken))
    (occurring-taken F p (second (keeps_rule F r) (each_of (keeps_rule F) p) k))
  where
    join : (xs ys : List Literal) → T (each_of (takes F) xs) → T (each_of (takes F) ys) → T (each_of (takes F) (xs ++ ys))
    join xs ys s t = along (sym (all_append (takes F) xs ys)) (both (each_of (takes F) xs) (each_of (takes F) ys) s t)
