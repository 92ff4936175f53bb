-- The rules that sheets append to a program are strict, and add no mark.
-- In order: the marks of an append; rules without marks behind others; the marks of a program that sheets expand are those of its written
-- rules: by the items of a file, and within a form's limits.
-- Assumes nothing.
use Prim.Native.Nat.{ℕ, ◌+◌}
use native.Mathlib.Omega.{arith}
use mathlib.Core.Path.{◌≡◌, refl, sym, ◌∙◌, ap, ap₂}
use mathlib.Core.List.{List, [], ◌∷◌, ◌++◌, map, append_assoc, append-nil}
use lib.ListN.{length}
use Rattle.literal.specs.declared.Limits.{Limits}
use Rattle.literal.specs.declared.Literal.{Literal}
use Rattle.semantics.specs.Set.{LiteralSet}
use Rattle.semantics.specs.Rule.{Rule, Program}
use Rattle.semantics.specs.Expansion.{Defeat, defeat_rule, made, unless_before, appended}
use Rattle.semantics.specs.Item.{Item, rules, overrides, oppositions, appended_by, expanded}
use Rattle.semantics.specs.Form.{keeps_defeat}
use Rattle.semantics.proofs.Laws.Tests.{Each, each-intro, all-mem}
use Rattle.semantics.proofs.Laws.Expanded.{Expanded, defeat-cases}
use Rattle.extend_marks.specs.Marks.{rule_marks, marks_from}

module _ (u : LiteralSet) where
  -- the marks of an append: the second part's numbers go on
  pub marks-append : (n : ℕ) (p q : Program) → marks_from n (p ++ q) u ≡ marks_from n p u ++ marks_from (n + length p) q u
  unfolding marks_from
  marks-append n [] q = ap (λ (m : ℕ). marks_from m q u) (omega arith)
  marks-append n (r ∷ p) q =
      ap (λ (ls : List Literal). rule_marks n r u ++ ls) (marks-append (n + 1) p q ∙ ap (λ (m : ℕ). marks_from (n + 1) p u ++ marks_from m q u) (omega arith))
      ∙ sym (append_assoc (rule_marks n r u) (marks_from (n + 1) p u) (marks_from (n + length (r ∷ p)) q u))

  -- a rule adds no mark, whatever its number
  abbrev Unmarked : Rule → Type 0
  Unmarked r = (n : ℕ) → rule_marks n r u ≡ []

  unmarked : (n : ℕ) (q : Program) → Each Unmarked q → marks_from n q u ≡ []
  unfolding marks_from
  unmarked n [] h = refl
  unmarked n (r ∷ q) h = ap₂ ◌++◌ (h.0 n) (unmarked (n + 1) q h.1)

  -- such rules behind others leave the marks as they are
  marks-front : (p q : Program) → Each Unmarked q → marks_from 1 (p ++ q) u ≡ marks_from 1 p u
  marks-front p q h =
      marks-append 1 p q ∙ ap (λ (ls : List Literal). marks_from 1 p u ++ ls) (unmarked (1 + length p) q h) ∙ append-nil (marks_from 1 p u)

  -- what sheets make is such a rule
  defeats-unmarked : (ds : List Defeat) → Each Unmarked (map defeat_rule ds)
  unfolding defeat_rule rule_marks
  defeats-unmarked [] = tt
  defeats-unmarked (d ∷ ds) = ((λ n. refl), defeats-unmarked ds)

  -- the program that a file's items mean has the marks of the written rules
  pub marks-expanded : (is : List Item) → marks_from 1 (expanded is) u ≡ marks_from 1 (rules is) u
  unfolding expanded appended_by appended
  marks-expanded is = marks-front (rules is) (appended_by is) (defeats-unmarked (unless_before [] (made (rules is) (overrides is) (oppositions is))))

  -- so has an expanded program within a form's limits
  pub marks-written : (F : Limits) (p : Program) (e : Expanded F p) → marks_from 1 p u ≡ marks_from 1 e.written u
  unfolding rule_marks
  marks-written F p e =
      ap (λ (q : Program). marks_from 1 q u) e.split
      ∙ marks-front e.written e.appended
      (each-intro Unmarked e.appended
      (λ r m n. defeat-cases F (λ q. rule_marks n q u ≡ []) r (all-mem (keeps_defeat F) e.each m) (λ t b a y z. refl)))
