-- What the parts of the check find, between the set's slice and the finding, and what the check asks of a form.
-- In order: the record and the verdict of what a search over masks found; that the search was done; that a program and a set can be
-- judged; that they were; a form that the code has room for; a program and a set that can be checked, and a file and a set; their
-- check.
-- Assumes nothing.
use Rattle.std.specs.Prelude.{ℕ, ◌+◌, ◌-◌, ◌^◌, ◌≤◌, ◌<◌, ◌≡◌, List, [], length, Option, Some, None, Ok}
use Rattle.buffer.specs.Bytes.{Bytes}
use Rattle.buffer.specs.Write.{write}
use Rattle.literal.specs.declared.Limits.{Limits}
use Rattle.literal.specs.declared.Literal.{Literal}
use Rattle.semantics.specs.Rule.{Program}
use Rattle.semantics.specs.Form.{most_appended}
use Rattle.semantics.specs.Verdict.{finding}
use Rattle.record.specs.Layout.{encoded_program}
use Rattle.record_walk.specs.Code.{Holds, HoldsFile}
use Rattle.expand.specs.Code.{Meaning}
use Rattle.set.specs.Reading.{parsed_set}
use Rattle.check_force.specs.declared.Clause.{Clause}
use Rattle.check_force.specs.Code.{Smaller}
use Rattle.check_search.specs.Code.{First}
use Rattle.check_clauses.specs.Code.{Clausable}
use Rattle.check_witness.specs.Code.{picked_record}
use Rattle.check_set.specs.declared.Verdict.{Verdict}
use Rattle.check_set.specs.Verdict.{verdict_of, witness}
use Rattle.check_set.specs.Check.{found_of, Checked, checked_of}

-- of a set with n literals in s, the record of the part that was found; nothing where none was
abbrev pub found_record : List ℕ → ℕ → Option ℕ → List ℕ
found_record s n None = []
found_record s n (Some m) = picked_record m s n

-- the verdict: that record's length, or yes
abbrev pub found_verdict : List ℕ → ℕ → Option ℕ → Verdict
found_verdict s n None = Verdict.Yes
found_verdict s n (Some m) = Verdict.Smaller (length (picked_record m s n))

-- the first smaller model was sought over the clauses, and r and `end` are what was found of it
pub record Decided (s : List ℕ) (n : ℕ) (clauses : List Clause) (out : List ℕ) (r : Verdict) (end : List ℕ) : Type 0 where
  pub model : Option ℕ
  pub first : First (Smaller (2 ^ n - 1) clauses) model
  pub answer : r ≡ found_verdict s n model
  pub buffer : end ≡ write out 0 (found_record s n model)

-- s holds a program, with room for a clause of each rule among b clauses, and k a set of a form's literals, n of them and no
-- more than a mask has positions; and an output of `size` bytes is as long as the set's record
pub record Judgeable (s k : List ℕ) (n b size : ℕ) : Type 0 where
  pub program : Holds (Clausable b) s
  pub form : Limits
  pub most : ℕ
  pub literals : List Literal
  pub set_bytes : Bytes k
  pub members : parsed_set form most k ≡ Ok literals
  pub count : length literals ≡ n
  pub few : n ≤ 64
  pub room : length k ≤ size

-- the verdict and the output are those of the finding
pub record Meant (p : Program) (ls : List Literal) (out : List ℕ) (r : Verdict) (end : List ℕ) : Type 0 where
  pub answer : r ≡ verdict_of (finding p ls)
  pub buffer : end ≡ write out 0 (witness (finding p ls))

-- so they are, for each program and each set that the slices hold
abbrev pub Judged : List ℕ → List ℕ → List ℕ → Verdict → List ℕ → Type 0
Judged s k out r end =
    (F : Limits) (most : ℕ) (p : Program) (ls : List Literal) → s ≡ encoded_program p → parsed_set F most k ≡ Ok ls → Meant p ls out r end

-- a form with no more rules, with those that sheets append, than b clauses there is room for, and no more literals in a set that is
-- checked than a mask has positions
pub record Checkable (F : Limits) (b : ℕ) : Type 0 where
  pub rules : F.rules + most_appended F ≤ b
  pub numbered : F.rules + most_appended F < 65535
  pub checked : F.checked ≤ 64

-- s holds a program, with room for a clause of each rule, and k a set of a form's literals, n of them and no more than a mask has positions
pub record Checking (s k : List ℕ) (n b : ℕ) : Type 0 where
  pub program : Holds (Clausable b) s
  pub form : Limits
  pub most : ℕ
  pub literals : List Literal
  pub members : parsed_set form most k ≡ Ok literals
  pub count : length literals ≡ n
  pub few : n ≤ 64

-- s holds a file with room for a clause of each rule of its program, and `bytes` bytes for its normal form, and k such a set
pub record CheckingFile (bytes : ℕ) (s k : List ℕ) (n b : ℕ) : Type 0 where
  pub file : HoldsFile (Meaning (Clausable b) bytes) s
  pub form : Limits
  pub most : ℕ
  pub literals : List Literal
  pub members : parsed_set form most k ≡ Ok literals
  pub count : length literals ≡ n
  pub few : n ≤ 64

-- the rules of the largest program that a source means; arrays for the clauses of a source with sheets have this length
abbrev pub expanded_rules : ℕ
expanded_rules = 8448

-- a form with no more written rules than b clauses there is room for, and no more with those that sheets append than `expanded_rules`
pub record CheckableFile (F : Limits) (b : ℕ) : Type 0 where
  pub rules : F.rules ≤ b
  pub appended : F.rules + most_appended F ≤ expanded_rules
  pub checked : F.checked ≤ 64

-- the check of a program and of a set of these literals, whose record is k
abbrev pub check_of : Program → List Literal → List ℕ → List ℕ → Checked
check_of p ls k out = checked_of (found_of p ls k out) out
