-- How many marks there are: no more than options, than there is room for, than rules times head literals.
-- In order: derivation marks; a rule's marks; a program's; room within a form's limits.
-- Assumes nothing.
use Prim.Native.Nat.{ℕ, suc, ◌+◌, ◌*◌, ◌≤◌, max}
use native.Mathlib.Omega.{arith}
use native.Mathlib.Nat.{suc-mul, mul-le-mul_right}
use mathlib.Core.Path.{◌≡◌, refl, ap}
use mathlib.Core.Bool.{Bool, true, false, cond, not, ◌&&◌}
use mathlib.Core.List.{List, [], ◌∷◌, ◌++◌}
use lib.Dec.{T}
use lib.ListN.{length, length-append, length-map}
use Rattle.literal.specs.declared.Limits.{Limits}
use Rattle.literal.specs.declared.Tag.{Tag}
use Rattle.literal.specs.declared.SignedAtom.{SignedAtom}
use Rattle.literal.specs.declared.Literal.TheVariants.{Signed, Defeated, Derived}
use Rattle.semantics.specs.Set.{LiteralSet, each_of}
use Rattle.semantics.specs.Rule.{Rule, strict, defeasible, head, Program}
use Rattle.semantics.specs.Form.{keeps_rule, keeps_rules}
use Rattle.semantics.proofs.Laws.Tests.{first, second}
use Rattle.semantics.proofs.Laws.Form.{kept, keeps-count, keeps-each}
use Rattle.extend_marks.specs.Marks.{derived_marks, rule_marks, marks_from}
use Rattle.extend_marks.specs.Code.{rule_room, marks_room}
use Rattle.extend_marks.proofs.Laws.Rule.{marks-defeated, marks-open}

-- derivation marks are no more than the options
length-derived : (t : Tag) (h : List SignedAtom) (s : LiteralSet) → length (derived_marks t h s) ≤ length h
unfolding derived_marks
length-derived t [] s = omega arith
length-derived t (a ∷ h) s = go (s (Signed a) && not (s (Defeated t a))) (length-derived t h s)
  where
    go : (b : Bool) → length (derived_marks t h s) ≤ length h → length (cond b (Derived t a ∷ derived_marks t h s) (derived_marks t h s)) ≤ suc (length h)
    go true ih = omega arith
    go false ih = omega arith

-- a rule adds no more marks than there is room for
length-marks : (n : ℕ) (r : Rule) (s : LiteralSet) → length (rule_marks n r s) ≤ rule_room r
unfolding rule_marks rule_room
length-marks n (strict h b c) s = omega arith
length-marks n (defeasible t h b c) s = go (each_of (λ a. s (Defeated t a)) h) refl
  where
    go : (d : Bool) → each_of (λ a. s (Defeated t a)) h ≡ d → length (rule_marks n (defeasible t h b c) s) ≤ max (length h) 1
    go true e = omega (arith, ap length (marks-defeated s n t h b c e))
    go false e = omega (arith, ap length (marks-open s n t h b c e), length-derived t h s)

-- nor does a program
pub length-program : (s : LiteralSet) (n : ℕ) (p : Program) → length (marks_from n p s) ≤ marks_room p
unfolding marks_from marks_room
length-program s n [] = omega arith
length-program s n (r ∷ p) =
    omega (arith, length-append (rule_marks n r s) (marks_from (n + 1) p s), length-marks n r s, length-program s (n + 1) p)

-- the room of an append
pub room-append : (p q : Program) → marks_room (p ++ q) ≡ marks_room p + marks_room q
unfolding marks_room
room-append [] q = omega arith
room-append (r ∷ p) q = omega (arith, room-append p q)

-- rules within a form's limits: no more than its rules times its head literals
rule-room : (F : Limits) → 1 ≤ F.heads → (r : Rule) → T (keeps_rule F r) → rule_room r ≤ F.heads
unfolding rule_room head
rule-room F one (strict h b c) k = omega arith
rule-room F one (defeasible t h b c) k = omega (arith, (kept F (defeasible t h b c) k).heads, length-map h Signed)

rules-room : (F : Limits) → 1 ≤ F.heads → (p : Program) → T (each_of (keeps_rule F) p) → marks_room p ≤ length p * F.heads
unfolding marks_room
rules-room F one [] k = omega arith
rules-room F one (r ∷ p) k =
    omega (arith, rule-room F one r (first (keeps_rule F r) _ k), rules-room F one p (second (keeps_rule F r) _ k), suc-mul (length p) F.heads)

pub written-room : (F : Limits) → 1 ≤ F.heads → (p : Program) → T (keeps_rules F p) → marks_room p ≤ F.rules * F.heads
written-room F one p k = omega (arith, rules-room F one p (keeps-each F p k), mul-le-mul_right F.heads (keeps-count F p k))
