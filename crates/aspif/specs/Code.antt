-- What the passes over a program that was read ask of it, and the parts of a text as they write them.
-- In order: the lines of rules; the text in parts; a program whose literals have places; one that was counted; one whose lines, or whose
-- text, have room; a program within limits, and what is delivered of it; limits within which a program is so; how much room is enough for
-- any text.
-- Assumes nothing.
use Rattle.std.specs.Prelude.{ℕ, ◌+◌, ◌*◌, ◌≤◌, ◌<◌, ◌≡◌, Bool, true, false, List, ◌++◌, map, T, leb, length, Ok}
use Rattle.literal.specs.declared.Limits.{Limits}
use Rattle.semantics.specs.Set.{each_of}
use Rattle.semantics.specs.Rule.{Rule, Program}
use Rattle.semantics.specs.Translation.{record_length}
use Rattle.record.specs.Result.{Outcome, delivered}
use Rattle.record.specs.Layout.{encoded_program, keeps}
use Rattle.aspif_meaning.specs.Program.{numbered}
use Rattle.aspif_text.specs.Text.{rule, lines, first_line, last_line, aspif_text}
use Rattle.aspif_place.specs.Code.{Placeable, number_in}
use Rattle.aspif_number.specs.Code.{Placed}
use Rattle.aspif_names.specs.Code.{pair_lines, name_lines}

-- the lines of a program's rules, by the numbers that marks give
unfoldable pub rule_lines : List ℕ → Program → List ℕ
rule_lines bits p = lines (map rule (map (numbered (number_in bits)) p))

-- the lines behind those of rules: constraints, names of atoms, names of negations
unfoldable pub behind_rules : List ℕ → List ℕ
behind_rules bits = pair_lines bits ++ (name_lines bits false ++ name_lines bits true)

-- the text
unfoldable pub text_in : List ℕ → Program → List ℕ
text_in bits p = first_line ++ (rule_lines bits p ++ (behind_rules bits ++ last_line))

-- a rule with at most 64 literals, by its record's length
abbrev pub is_short : Rule → Bool
is_short r = leb (record_length r) 327

-- each literal has a place, no rule has many, and the text's length fits its type
pub record Numberable (p : Program) : Type 0 where
  pub placed : Placed p
  pub few : T (each_of is_short p)
  pub short : length (encoded_program p) < 500000

-- so it is, and it has n rules
pub record Counted (n : ℕ) (p : Program) : Type 0 where
  pub numberable : Numberable p
  pub count : length p ≡ n

-- so it is, and its rules' lines have room from `to` on
pub record Fitting (n : ℕ) (bits : List ℕ) (to room : ℕ) (p : Program) : Type 0 where
  pub counted : Counted n p
  pub fits : to + length (rule_lines bits p) ≤ room

-- so it is, and its text has room
pub record TextFits (n : ℕ) (bits : List ℕ) (room : ℕ) (p : Program) : Type 0 where
  pub counted : Counted n p
  pub fits : length (text_in bits p) ≤ room

-- within a form's limits, with n rules
pub record Within (F : Limits) (n : ℕ) (p : Program) : Type 0 where
  pub kept : T (keeps F p)
  pub count : length p ≡ n

-- what is delivered of a program that was read, by its marks and by its own numbers
unfoldable pub outcome_in : List ℕ → Program → List ℕ → Outcome
outcome_in bits p out = delivered (Ok (text_in bits p)) out

unfoldable pub outcome_of : Program → List ℕ → Outcome
outcome_of p out = delivered (Ok (aspif_text p)) out

-- each program within these limits has strict rules alone and no sheets, and is numberable, and its numbers, counts and atoms have few figures
pub record Exportable (F : Limits) : Type 0 where
  pub strict : F.defeasible ≡ false
  pub unsheeted : F.sheets ≡ 0
  pub placeable : Placeable F
  pub short : F.length < 499991
  pub heads : F.heads < 100
  pub bodies : F.positives + F.nafs < 100
  pub atoms : F.atoms < 10000
  pub literals : F.heads + F.positives + F.nafs ≤ 64

-- no text of a program with n bytes is longer
abbrev pub enough : Limits → ℕ → ℕ
enough F n = 2 * n + 58 * F.atoms + 12
