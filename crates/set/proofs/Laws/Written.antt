-- A set within a form's limits is written in bytes, and read back from them.
-- In order: the literals' bytes; the record.
-- Assumes nothing.
use Prim.Native.Nat.{ℕ}
use Rattle.std.specs.Prelude.{Ok}
use native.Mathlib.Omega.{arith}
use mathlib.Core.Path.{◌≡◌}
use mathlib.Core.List.{List, [], ◌∷◌, ◌++◌}
use lib.Dec.{T}
use lib.ListN.{length}
use Rattle.buffer.specs.Bytes.{Bytes, two_bytes}
use Rattle.buffer.proofs.Laws.Bytes.{bytes-nil, bytes-cons, bytes-append, bytes-two_bytes}
use Rattle.literal.specs.declared.Limits.{Limits}
use Rattle.literal.specs.declared.Literal.{Literal}
use Rattle.literal.specs.Literal.{encoded, takes}
use Rattle.literal.proofs.Laws.Literal.{TwoBytes, bytes-encoded, takes-fits}
use Rattle.semantics.specs.Set.{each_of}
use Rattle.semantics.proofs.Laws.Tests.{first, second}
use Rattle.record.specs.Header.{set_letter, colon}
use Rattle.record.specs.Layout.{encoded_literals}
use Rattle.set.specs.Layout.{encoded_set, keeps_set}
use Rattle.set.specs.Reading.{parsed_set}
use Rattle.set.proofs.Laws.Reading.{keeps-set-taken, keeps-set-count, parsed-set-complete}

module _ (F : Limits) (narrow : TwoBytes F) where
  bytes-literals : (ls : List Literal) → T (each_of (takes F) ls) → Bytes (encoded_literals ls)
  unfolding encoded_literals
  bytes-literals [] t = bytes-nil
  bytes-literals (l ∷ ls) t =
      bytes-append (encoded l) (encoded_literals ls) (bytes-encoded l (takes-fits F narrow l (first (takes F l) (each_of (takes F) ls) t)))
      (bytes-literals ls (second (takes F l) (each_of (takes F) ls) t))

  module _ (most : ℕ) (ls : List Literal) (k : T (keeps_set F most ls)) where
    bytes-set : Bytes (encoded_set ls)
    unfolding encoded_set
    bytes-set =
        let count = bytes-two_bytes (length ls) (keeps-set-count F most ls k) in
        let behind = bytes-append (two_bytes (length ls)) (encoded_literals ls) count (bytes-literals ls (keeps-set-taken F most ls k)) in
        bytes-cons {b = set_letter} (colon ∷ (two_bytes (length ls) ++ encoded_literals ls)) (omega arith)
        (bytes-cons {b = colon} (two_bytes (length ls) ++ encoded_literals ls) (omega arith) behind)

    -- what is written for a set within the limits is read as that set
    pub set-read-back : parsed_set F most (encoded_set ls) ≡ Ok ls
    set-read-back = parsed-set-complete F most ls bytes-set k
