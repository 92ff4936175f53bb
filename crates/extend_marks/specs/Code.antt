-- How code collects marks: as keys in a slice, behind those that stand there.
-- In order: keys that a slice gained; the marks that rules add at most; a program whose marks are collected, and a file; room
-- for the marks of a record.
-- Assumes nothing.
use Rattle.std.specs.Prelude.{ℕ, ◌+◌, ◌≤◌, ◌<◌, max, ◌≡◌, List, [], ◌∷◌, ◌++◌, length, take}
use Rattle.semantics.specs.Rule.{Rule, strict, defeasible, Program}
use Rattle.semantics.specs.Item.{Item, rules}
use Rattle.record.specs.Header.{defeasible_letter, letter_of, head_count}

-- a slice d became e, as long: behind its first n keys it gained r, which are ks. Behind those stands anything
pub record Gained (d e : List ℕ) (n r : ℕ) (ks : List ℕ) : Type 0 where
  pub count : r ≡ length ks
  pub front : take (n + r) e ≡ take n d ++ ks
  pub same : length e ≡ length d

-- the marks of a rule, at most: those of its options, or its own. A strict rule adds none
unfoldable pub rule_room : Rule → ℕ
rule_room (strict h b c) = 0
rule_room (defeasible t h b c) = max (length h) 1

unfoldable pub marks_room : Program → ℕ
marks_room [] = 0
marks_room (r ∷ p) = rule_room r + marks_room p

-- a program of fewer rules than two bytes count, whose marks `room` keys are enough for
pub record Markable (room : ℕ) (p : Program) : Type 0 where
  pub short : length p < 65535
  pub fits : marks_room p ≤ room

-- a file whose written rules are such a program: those that its sheets append add no mark
abbrev pub MarkableFile : ℕ → List Item → Type 0
MarkableFile room is = Markable room (rules is)

-- behind n keys, `room` keys are enough for the marks of the rule whose record starts t
abbrev pub Roomy : List ℕ → ℕ → ℕ → Type 0
Roomy t n room = letter_of t ≡ defeasible_letter → (n + head_count t ≤ room) × (n < room)
