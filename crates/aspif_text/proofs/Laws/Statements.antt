-- The statements of a plain program: their rules are its ground program, and what they show its names; lines of statements in a row.
-- In order: of rules behind which names stand; of a program; lines.
-- Assumes nothing.
use mathlib.Core.Path.{◌≡◌, refl, sym, ◌∙◌, ap}
use mathlib.Core.List.{List, [], ◌∷◌, ◌++◌, map, append_assoc}
use Rattle.semantics.specs.Rule.{Program}
use Rattle.aspif_meaning.specs.Ground.{GroundRule, GroundProgram}
use Rattle.aspif_meaning.specs.Program.{ground, names}
use Rattle.aspif_text.specs.Text.{Output, Statement, rule, output, line, lines, output_of, statements}
use Rattle.aspif_text.specs.Reading.{rules_of, outputs_of}

-- of names alone
no-rules : (os : List Output) → rules_of (map output os) ≡ []
unfolding rules_of
no-rules [] = refl
no-rules (o ∷ os) = no-rules os

outputs : (os : List Output) → outputs_of (map output os) ≡ os
unfolding outputs_of
outputs [] = refl
outputs (o ∷ os) = ap (λ (xs : List Output). o ∷ xs) (outputs os)

-- of rules, then names
rules-then : (g : GroundProgram) (os : List Output) → rules_of (map rule g ++ map output os) ≡ g
unfolding rules_of
rules-then [] os = no-rules os
rules-then (r ∷ g) os = ap (λ (rs : List GroundRule). r ∷ rs) (rules-then g os)

outputs-then : (g : GroundProgram) (os : List Output) → outputs_of (map rule g ++ map output os) ≡ os
unfolding outputs_of
outputs-then [] os = outputs os
outputs-then (r ∷ g) os = outputs-then g os

-- of a program
pub rules-of-statements : (p : Program) → rules_of (statements p) ≡ ground p
unfolding statements
rules-of-statements p = rules-then (ground p) (map output_of (names p))

pub outputs-of-statements : (p : Program) → outputs_of (statements p) ≡ map output_of (names p)
unfolding statements
outputs-of-statements p = outputs-then (ground p) (map output_of (names p))

-- lines of statements, then of others
pub lines-append : (xs ys : List Statement) → lines (xs ++ ys) ≡ lines xs ++ lines ys
unfolding lines
lines-append [] ys = refl
lines-append (x ∷ xs) ys = ap (λ (bs : List _). line x ++ bs) (lines-append xs ys) ∙ sym (append_assoc (line x) (lines xs) (lines ys))
