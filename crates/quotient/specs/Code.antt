-- What the writers of a quotient speak of (01, "Quotient").
-- In order: the quotient, as bytes; limits for which a quotient is made; what the passes ask of a program; a program and a set whose
-- quotient can be written, and a file and a set; the quotient, delivered.
-- Not here: what is left of a record, by its bytes (`quotient_rule`).
-- Assumes nothing.
use Rattle.std.specs.Prelude.{ℕ, ◌+◌, ◌≤◌, ◌<◌, ◌≡◌, List, map, length, Ok}
use Rattle.literal.specs.declared.Limits.{Limits}
use Rattle.literal.specs.declared.Literal.{Literal}
use Rattle.semantics.specs.Set.{LiteralSet}
use Rattle.semantics.specs.Rule.{Program}
use Rattle.semantics.specs.Meaning.{quotient}
use Rattle.semantics.specs.Form.{most_appended}
use Rattle.record.specs.Result.{Outcome, delivered}
use Rattle.record.specs.Layout.{encoded_program}
use Rattle.record_walk.specs.Code.{Holds, HoldsFile}
use Rattle.expand.specs.Code.{Meaning}
use Rattle.set.specs.Reading.{parsed_set}
use Rattle.quotient.specs.Quotient.{remainder_rule, quotient_program}

-- the quotient of a program by a set, as a program's bytes
unfoldable pub quotient_of : Program → LiteralSet → List ℕ
quotient_of p s = encoded_program (map remainder_rule (quotient p s))

-- limits within which two bytes count a program's rules, with those that sheets append
pub record Sized (F : Limits) : Type 0 where
  pub rules : F.rules + most_appended F < 65536

-- a program of fewer rules than two bytes count
abbrev pub Countable : Program → Type 0
Countable p = length p < 65536

-- so it is, and its quotient by a set has room
pub record Fitting (u : LiteralSet) (room : ℕ) (p : Program) : Type 0 where
  pub few : length p < 65536
  pub fits : length (quotient_of p u) ≤ room

-- s holds a program of fewer rules than two bytes count, and k a set of a form's literals, n of them
pub record Dividing (s k : List ℕ) (n : ℕ) : Type 0 where
  pub program : Holds Countable s
  pub form : Limits
  pub upto : ℕ
  pub literals : List Literal
  pub members : parsed_set form upto k ≡ Ok literals
  pub counted : n ≡ length literals

-- s holds a file whose program has fewer rules than two bytes count, with `most` bytes for its normal form, and k a set of n literals
pub record DividingFile (most : ℕ) (s k : List ℕ) (n : ℕ) : Type 0 where
  pub file : HoldsFile (Meaning Countable most) s
  pub form : Limits
  pub upto : ℕ
  pub literals : List Literal
  pub members : parsed_set form upto k ≡ Ok literals
  pub counted : n ≡ length literals

-- the quotient of a program by the set of a list, delivered
abbrev pub delivered_quotient : Program → List Literal → List ℕ → Outcome
delivered_quotient p ls out = delivered (Ok (encoded_program (quotient_program p ls))) out
