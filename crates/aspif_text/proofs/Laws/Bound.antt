-- How long the text of a plain program is, where numbers have at most five figures, a rule's counts two and atoms four.
-- In order: what is asked of a program; the lines of its rules, of its constraints, of its names; its text.
-- Assumes nothing.
use Prim.Native.Nat.{ℕ, ◌+◌, ◌*◌, ◌≤◌, ◌<◌}
use native.Mathlib.Omega.{arith}
use mathlib.Core.Path.{◌≡◌, refl}
use mathlib.Core.Bool.{Bool, true, false}
use mathlib.Core.List.{List, [], ◌∷◌, ◌++◌, map, map-append}
use lib.ListN.{length, length-append, length-map}
use Rattle.literal.specs.declared.SignedAtom.TheVariants.{Positive, Negative}
use Rattle.literal.specs.declared.Literal.{Literal}
use Rattle.literal.specs.declared.Literal.TheVariants.{Signed, Defeated, Derived, RuleDefeated}
use Rattle.literal.specs.Literal.{atom_number}
use Rattle.semantics.specs.Set.{LiteralSet, set_of}
use Rattle.semantics.specs.Rule.{Rule, Program, head, positive, naf}
use Rattle.semantics.proofs.Laws.Tests.{Each, each_append}
use Rattle.aspif_meaning.specs.Ground.{GroundProgram}
use Rattle.aspif_meaning.specs.Numbering.{rule_literals, occurring, literals, number_of}
use Rattle.aspif_meaning.specs.Program.{numbered, constraints_of, constraints_from, constraints, ground_with, ground, Name, names_of, names_with, names}
use Rattle.aspif_text.specs.Text.{Output, Statement, rule, output, line_end, rule_line, line, lines, first_line, last_line, text_of, output_of, statements, aspif_text}
use Rattle.aspif_text.proofs.Laws.Statements.{lines-append}
use Rattle.aspif_text.proofs.Laws.Length.{Small, length-rule, length-never, length-output}

-- a rule with few literals: its counts have at most two figures
pub record FewIn (r : Rule) : Type 0 where
  pub heads : length (head r) < 100
  pub bodies : length (positive r) + length (naf r) < 100

module _ (ν : Literal → ℕ) (small : (l : Literal) → ν l < 100000) where
  small-numbers : (ls : List Literal) → Small (map ν ls)
  small-numbers [] = tt
  small-numbers (l ∷ ls) = (small l, small-numbers ls)

  -- a rule's line
  length-numbered : (r : Rule) → FewIn r → length (rule_line (numbered ν r)) ≤ 12 + 7 * length (rule_literals r)
  unfolding numbered rule_literals
  length-numbered r few =
      simp length-append
      (omega (
        arith,
        length-rule (numbered ν r) (small-numbers (head r)) (small-numbers (positive r)) (small-numbers (naf r))
            (omega (arith, few.heads, length-map (head r) ν)) (omega (arith, few.bodies, length-map (positive r) ν, length-map (naf r) ν)),
        length-map (head r) ν,
        length-map (positive r) ν,
        length-map (naf r) ν,
      ))

  -- the lines of a program's rules
  length-rules : (p : Program) → Each FewIn p → length (lines (map rule (map (numbered ν) p))) ≤ 12 * length p + 7 * length (occurring p)
  unfolding lines line occurring
  length-rules [] h = omega arith
  length-rules (r ∷ p) h =
      simp length-append (omega (arith, length-numbered r h.0, length-rules p h.1))

  -- the lines of constraints
  length-constraint : (s : LiteralSet) (l : Literal) → length (lines (map rule (constraints_of ν s l))) ≤ 22 * length (constraints_of ν s l)
  unfolding constraints_of lines line
  length-constraint s (Signed (Positive a)) = go (s (Signed (Negative a))) refl
    where
      go : (b : Bool) → s (Signed (Negative a)) ≡ b
          → length (lines (map rule (constraints_of ν s (Signed (Positive a))))) ≤ 22 * length (constraints_of ν s (Signed (Positive a)))
      go true e =
          rw (e, constraints_of)
          (simp length-append (omega (arith, length-never (ν (Signed (Positive a))) (ν (Signed (Negative a))) (small _) (small _))))
      go false e = rw (e, constraints_of) (omega arith)
  length-constraint s (Signed (Negative a)) = omega arith
  length-constraint s (Defeated t a) = omega arith
  length-constraint s (Derived t a) = omega arith
  length-constraint s (RuleDefeated n) = omega arith

  length-constraints : (s : LiteralSet) (ls : List Literal) → length (lines (map rule (constraints_from ν s ls))) ≤ 22 * length (constraints_from ν s ls)
  unfolding constraints_from lines
  length-constraints s [] = omega arith
  length-constraints s (l ∷ ls) =
      rw (map-append rule (constraints_of ν s l) (constraints_from ν s ls), lines-append (map rule (constraints_of ν s l)) (map rule (constraints_from ν s ls)))
      (simp length-append (omega (arith, length-constraint s l, length-constraints s ls)))

  -- a name's number is a literal's
  name-number : (l : Literal) → Each (λ (x : Name). x.number < 100000) (names_of ν l)
  unfolding names_of
  name-number (Signed a) = (small (Signed a), tt)
  name-number (Defeated t a) = tt
  name-number (Derived t a) = tt
  name-number (RuleDefeated n) = tt

  name-numbers : (ls : List Literal) → Each (λ (x : Name). x.number < 100000) (names_with ν ls)
  unfolding names_with
  name-numbers [] = tt
  name-numbers (l ∷ ls) = each_append (λ (x : Name). x.number < 100000) (names_of ν l) (names_with ν ls) (name-number l) (name-numbers ls)

-- the lines of names
length-names : (xs : List Name) → Each (λ x. atom_number x.atom < 10000) xs → Each (λ x. x.number < 100000) xs
    → length (lines (map output (map output_of xs))) ≤ 18 * length xs
unfolding lines line
length-names [] h k = omega arith
length-names (x ∷ xs) h k = simp length-append (omega (arith, length-output x h.0 k.0, length-names xs h.1 k.1))

-- what is asked of a program: numbers of at most five figures, rules with few literals, atoms of at most four figures
pub record Bounded (p : Program) : Type 0 where
  pub numbers : (l : Literal) → number_of p l < 100000
  pub rules : Each FewIn p
  pub atoms : Each (λ x. atom_number x.atom < 10000) (names p)

-- a text's first and last line have twelve bytes
length-text : (xs : List Statement) → length (text_of xs) ≡ 12 + length (lines xs)
unfolding text_of first_line last_line
length-text xs = omega (arith, length-append (lines xs) (0x30 ∷ line_end ∷ []))

-- the lines of rules, of others and of names
length-parts : (g f : GroundProgram) (os : List Output)
    → length (lines (map rule (g ++ f) ++ map output os)) ≡ length (lines (map rule g)) + length (lines (map rule f)) + length (lines (map output os))
length-parts g f os =
    rw (lines-append (map rule (g ++ f)) (map output os), map-append rule g f, lines-append (map rule g) (map rule f)) (simp length-append)

-- the text of a program: two lines, its rules, its constraints, its names
pub text-bound : (p : Program) → Bounded p
    → length (aspif_text p)
    ≤ 12 + 12 * length p + 7 * length (occurring p) + 22 * length (constraints (number_of p) (literals p)) + 18 * length (names p)
unfolding aspif_text statements ground ground_with constraints names
text-bound p h =
    let ν = number_of p in
    let ls = literals p in
    omega (
      arith,
      length-text (statements p),
      length-parts (map (numbered ν) p) (constraints_from ν (set_of ls) ls) (map output_of (names p)),
      length-rules ν h.numbers p h.rules,
      length-constraints ν h.numbers (set_of ls) ls,
      length-names (names p) h.atoms (name-numbers ν h.numbers ls),
    )
