-- Laws of signs. By these other crates know the sign that a kind gives; how it is told, only the step that tells it (`literal_decode`)
-- and the computed examples look at.
-- In order: the signs of kinds 0 to 6; of literals by their kinds; of opposites; an option by its kind and atom, and by its five bytes.
-- Assumes nothing.
use Prim.Native.Nat.{ℕ, zero, suc, ◌≤◌}
use native.Mathlib.Omega.{arith}
use mathlib.Core.Path.{◌≡◌, refl, ◌∙◌, ap}
use mathlib.Core.Bool.{not, ◌||◌}
use mathlib.Core.List.{List, ◌++◌}
use lib.Dec.{eqb}
use lib.ListN.{get_or}
use Rattle.buffer.specs.Bytes.{number_at}
use Rattle.buffer.proofs.Laws.Bytes.{number-two_bytes}
use Rattle.literal.specs.declared.SignedAtom.{SignedAtom}
use Rattle.literal.specs.declared.SignedAtom.TheVariants.{Positive, Negative}
use Rattle.literal.specs.declared.Literal.{Literal}
use Rattle.literal.specs.declared.Literal.TheVariants.{Signed, Defeated, Derived, RuleDefeated}
use Rattle.literal.specs.Literal.{atom_number, kind, atom_field, encoded, negative, negated, negated_kind, signed_atom, opposite}

-- on kinds 0 to 6 the remainder gives the sign that 01 does (0 an atom, 1 an explicitly negated atom, then the marks of either): 1, 3
-- and 5 are negated, and 6 is not
pub negated-kinds : (k : ℕ) → k ≤ 6 → negated_kind k ≡ (eqb k 1 || eqb k 3 || eqb k 5)
unfolding negated_kind
negated-kinds zero h = refl
negated-kinds (suc zero) h = refl
negated-kinds (suc (suc zero)) h = refl
negated-kinds (suc (suc (suc zero))) h = refl
negated-kinds (suc (suc (suc (suc zero)))) h = refl
negated-kinds (suc (suc (suc (suc (suc zero))))) h = refl
negated-kinds (suc (suc (suc (suc (suc (suc zero)))))) h = refl
negated-kinds (suc (suc (suc (suc (suc (suc (suc k))))))) h = absurd (omega arith)

-- a literal's kind has the sign of its atom
pub kind-sign : (l : Literal) → negated_kind (kind l) ≡ negated l
unfolding kind negated_kind negated negative
kind-sign (Signed (Positive a)) = refl
kind-sign (Signed (Negative a)) = refl
kind-sign (Defeated t (Positive a)) = refl
kind-sign (Defeated t (Negative a)) = refl
kind-sign (Derived t (Positive a)) = refl
kind-sign (Derived t (Negative a)) = refl
kind-sign (RuleDefeated n) = refl

-- opposite atoms have different signs
pub opposite-sign : (a : SignedAtom) → negative (opposite a) ≡ not (negative a)
unfolding negative opposite
opposite-sign (Positive a) = refl
opposite-sign (Negative a) = refl

-- an option's kind and atom spell it
option-spelled : (a : SignedAtom) → signed_atom (kind (Signed a)) (atom_number a) ≡ a
unfolding signed_atom kind negated_kind
option-spelled (Positive a) = refl
option-spelled (Negative a) = refl

-- its five bytes spell it, whatever stands behind them
pub option-first : (a : SignedAtom) (rest : List ℕ) → signed_atom (get_or (encoded (Signed a) ++ rest) 0 0) (number_at (encoded (Signed a) ++ rest) 3) ≡ a
unfolding encoded atom_field
option-first a rest = ap (signed_atom (kind (Signed a))) (number-two_bytes (atom_number a)) ∙ option-spelled a
