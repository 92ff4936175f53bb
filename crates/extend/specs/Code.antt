-- What extending asks of a form and of what was read, and the record that it writes.
-- In order: limits for which an extension is made; a file and a set whose extension can be written; the extension, delivered; a set's
-- literals with marks behind them.
-- Assumes nothing.
use Rattle.std.specs.Prelude.{ℕ, ◌+◌, ◌*◌, ◌≤◌, ◌<◌, ◌≡◌, List, ◌++◌, length, take, drop, Ok}
use Rattle.literal.specs.declared.Limits.{Limits}
use Rattle.literal.specs.declared.Literal.{Literal}
use Rattle.semantics.specs.Rule.{Program}
use Rattle.semantics.specs.Form.{most_appended, TakesDefeats}
use Rattle.record.specs.Result.{Outcome, delivered}
use Rattle.record_walk.specs.Code.{HoldsFile}
use Rattle.set.specs.Layout.{encoded_set}
use Rattle.set.specs.Reading.{parsed_set}
use Rattle.set.specs.Code.{set_header}
use Rattle.keys.specs.Code.{key_bytes}
use Rattle.extend_marks.specs.Code.{MarkableFile}
use Rattle.extend.specs.Extend.{extension_list}

-- the marks that a program's rules may add, no more than a rule has options
abbrev pub most : ℕ
most = 4096

-- limits for which an extension is made: the marks are no more than `most`, two bytes count the rules, with those that sheets append,
-- each field of a literal fits two bytes, and two bytes count the literals with the marks
pub record Extendable (F : Limits) : Type 0 where
  pub appended : TakesDefeats F
  pub marks : F.rules * F.heads ≤ most
  pub rules : F.rules + most_appended F < 65535
  pub atoms : F.atoms < 65536
  pub tags : F.tags < 65536
  pub total : F.literals + most < 65536

-- s holds a file whose rules' marks there is room for, and k a set of a form's literals, n of them, which two bytes count with the marks
pub record Extending (s k : List ℕ) (n : ℕ) : Type 0 where
  pub file : HoldsFile (MarkableFile most) s
  pub form : Limits
  pub upto : ℕ
  pub literals : List Literal
  pub members : parsed_set form upto k ≡ Ok literals
  pub counted : n ≡ length literals
  pub total : n + most < 65536

-- the extension of a list of literals for a program, delivered
abbrev pub extension_of : Program → List Literal → List ℕ → Outcome
extension_of p ls out = delivered (Ok (encoded_set (extension_list p ls))) out

-- the A: record of the first literals of the set in k, and of n marks behind them, given as keys
unfoldable pub joined : List ℕ → ℕ → List ℕ → ℕ → List ℕ
joined k count ks n = (set_header (count + n) ++ take (5 * count) (drop 4 k)) ++ key_bytes ks
