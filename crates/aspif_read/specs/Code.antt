-- What code that reads and marks holds, record by record.
-- In order: a strict rule's literals; the marks of a rule's record; of what a record was found to be.
-- Assumes nothing.
use Rattle.std.specs.Prelude.{ℕ, ◌≡◌, false, List, Err, Ok}
use Rattle.literal.specs.declared.Limits.{Limits}
use Rattle.record.specs.declared.Step.{Step}
use Rattle.record.specs.Header.{head_count, positive_count, naf_count}
use Rattle.record.specs.Result.{Answer}
use Rattle.record.specs.Reading.{Entry, body_at}
use Rattle.record_walk.specs.Code.{record_size}
use Rattle.aspif_number.specs.Code.{Gained, places_at, literal_count}

-- what the literals of the strict rule's record that starts t come to
abbrev pub strict_body : Limits → List ℕ → Answer Entry
strict_body F t = body_at F false t (head_count t) (positive_count t) (naf_count t)

-- words d became e: the places of the literals of the rule's record that starts t are marked besides, and that record has so many bytes
pub record RuleMarked (t d e : List ℕ) (size : ℕ) : Type 0 where
  pub whole : size ≡ record_size t
  pub gained : Gained d e (places_at t 7 (literal_count t))

-- words d became e so where the record that starts t is a rule's, and stayed where it is a sheet's or the end; of a refusal nothing is
-- said
abbrev pub Marked : List ℕ → List ℕ → List ℕ → Answer Step → Type 0
Marked t d e (Ok (Step.Rule size)) = RuleMarked t d e size
Marked t d e (Ok (Step.Override size)) = e ≡ d
Marked t d e (Ok (Step.Opposition size)) = e ≡ d
Marked t d e (Ok Step.End) = e ≡ d
Marked t d e (Err x) = Unit
