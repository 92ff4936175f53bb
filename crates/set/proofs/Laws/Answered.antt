-- What reading a set answered, taken back to what it read: a refusal, or literals in the number that was answered.
-- Assumes nothing.
use Prim.Native.Nat.{ℕ}
use Rattle.std.specs.Prelude.{Ok, Err}
use mathlib.Core.Path.{◌≡◌}
use mathlib.Core.List.{List}
use lib.ListN.{length}
use Rattle.literal.specs.declared.Limits.{Limits}
use Rattle.literal.specs.declared.Literal.{Literal}
use Rattle.record.specs.declared.Refusal.{Refusal}
use Rattle.record.proofs.Laws.Reading.{read_count, read-refused}
use Rattle.set.specs.Reading.{parsed_set}
use Rattle.set.specs.Code.{set_reading}

module _ (F : Limits) (most : ℕ) (s : List ℕ) where
  pub set-refused : (x : Refusal) → set_reading F most s ≡ Err x → parsed_set F most s ≡ Err x
  unfolding set_reading
  set-refused x e = read-refused (parsed_set F most s) x e

  pub set-literals : (n : ℕ) → set_reading F most s ≡ Ok n → (ls : List Literal) × (parsed_set F most s ≡ Ok ls) × (length ls ≡ n)
  unfolding set_reading
  set-literals n e = read_count (parsed_set F most s) n e
