-- Showing a rule's record (01, "Show"; 02, Ask 2): where it lies in the file's slice. Sheet records are stepped over.
-- Assumes nothing.
use Rattle.std.specs.Prelude.{ℕ, zero, suc, ◌+◌, true, false, List, [], ◌∷◌, length, Ok, Err}
use Rattle.record.specs.Result.{Answer}
use Rattle.literal.specs.declared.Limits.{Limits}
use Rattle.literal.specs.Literal.{in_range}
use Rattle.semantics.specs.Item.{Item, rule, override, opposition, rules}
use Rattle.semantics.specs.Translation.{record_length}
use Rattle.record.specs.declared.Reason.TheVariants.{NoSuchRule}
use Rattle.record.specs.Refusal.{refusal}
use Rattle.record.specs.Layout.{encoded_override, encoded_opposition}
use Rattle.record.specs.Reading.{items}
use Rattle.record_show.specs.declared.Extent.{Extent}

-- where the record of rule n lies, among items whose first record starts at `at` and whose first rule is rule 1
unfoldable pub extent_from : ℕ → List Item → ℕ → Extent
extent_from at [] n = record { start = at; size = 0 }
extent_from at (rule r ∷ is) zero = record { start = at; size = 0 }
extent_from at (rule r ∷ is) (suc zero) = record { start = at; size = record_length r }
extent_from at (rule r ∷ is) (suc (suc n)) = extent_from (at + record_length r) is (suc n)
extent_from at (override o ∷ is) n = extent_from (at + length (encoded_override o)) is n
extent_from at (opposition x ∷ is) n = extent_from (at + length (encoded_opposition x)) is n

-- as read, then 13: a number that is 0 or above the count of written rules, place 0
unfoldable pub shown : Limits → List ℕ → ℕ → Answer Extent
shown F s n =
    elim (items F s) [
      | Err x ↦ Err x
      | Ok is ↦
          elim (in_range (length (rules is)) n) [
            | true ↦ Ok (extent_from 0 is n)
            | false ↦ Err (refusal NoSuchRule 0)
          ]
    ]

-- the part of the slice that is handed back: the record's, or the empty part at the slice's start
unfoldable pub shown_extent : Answer Extent → Extent
shown_extent (Ok e) = e
shown_extent (Err x) = record { start = 0; size = 0 }
