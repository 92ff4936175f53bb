-- A: records (01, "Records"): a set of literals, strictly ascending as byte strings, in a slice to itself.
-- In order: ascending lists; the record; a set within a form's limits.
-- Assumes nothing.
use Rattle.std.specs.Prelude.{ℕ, Bool, true, ◌&&◌, List, [], ◌∷◌, ◌++◌, leb, ltb, length}
use Rattle.buffer.specs.Bytes.{two_bytes}
use Rattle.literal.specs.declared.Limits.{Limits}
use Rattle.literal.specs.declared.Literal.{Literal}
use Rattle.literal.specs.Literal.{takes}
use Rattle.literal.specs.Order.{before}
use Rattle.semantics.specs.Set.{each_of}
use Rattle.record.specs.Header.{set_letter, colon}
use Rattle.record.specs.Layout.{encoded_literals}

-- each literal is below the next
unfoldable pub ascending : List Literal → Bool
ascending [] = true
ascending (l ∷ []) = true
ascending (l ∷ m ∷ ls) = before l m && ascending (m ∷ ls)

-- A: the number of literals (2 bytes), then the literals
unfoldable pub encoded_set : List Literal → List ℕ
encoded_set ls = set_letter ∷ colon ∷ (two_bytes (length ls) ++ encoded_literals ls)

-- literals of the form in ascending order, no more than `most`, and no more than two bytes count
unfoldable pub keeps_set : Limits → ℕ → List Literal → Bool
keeps_set F most ls = ascending ls && (each_of (takes F) ls && (leb (length ls) most && ltb (length ls) 65536))
