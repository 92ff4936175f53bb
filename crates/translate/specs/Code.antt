-- What the passes over a program ask of it, and what is made of it (01, "Translate").
-- In order: a program whose translation's counts fit their types; one whose translation has room; forms within whose limits a program,
-- with the rules that sheets append to it, is so; the translation, delivered.
-- Assumes nothing.
use Rattle.std.specs.Prelude.{ℕ, ◌+◌, ◌*◌, ◌≤◌, ◌<◌, List, T, leb, length, Ok}
use Rattle.literal.specs.declared.Limits.{Limits}
use Rattle.semantics.specs.Set.{each_of}
use Rattle.semantics.specs.Rule.{naf, Program}
use Rattle.semantics.specs.Translation.{translation, translation_length}
use Rattle.semantics.specs.Form.{most_appended, TakesDefeats}
use Rattle.record.specs.Result.{Outcome, delivered}
use Rattle.record.specs.Layout.{encoded_program}

-- two bytes count the rules of its translation, and one more; its bytes can be added up; and a naf literal more fits its byte
pub record Translatable (p : Program) : Type 0 where
  pub rules : length (translation p) < 65535
  pub bytes : translation_length p < 2147483648
  pub nafs : T (each_of (λ r. leb (length (naf r)) 254) p)

-- so it is, and its translation has room
pub record Fitting (room : ℕ) (p : Program) : Type 0 where
  pub translatable : Translatable p
  pub fits : translation_length p ≤ room

-- each program within these limits is translatable
pub record Writable (F : Limits) : Type 0 where
  pub rules : F.rules * (3 * F.heads + 2) + most_appended F < 65535
  pub bytes : 4 + F.rules * (66 * F.heads + 5 * (F.positives + F.nafs) + 24) + 17 * most_appended F < 2147483648
  pub nafs : F.nafs < 255
  pub appended : TakesDefeats F

-- a program's translation, delivered
abbrev pub translation_of : Program → List ℕ → Outcome
translation_of p out = delivered (Ok (encoded_program (translation p))) out
