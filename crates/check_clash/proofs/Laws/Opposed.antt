-- The search for a clash in the slice of a set that was read finds what the definition on literals does.
-- In order: a position as it is answered; the opposite of one literal; the first clash; the answer, each way. Assumes nothing.
use Prim.Native.Nat.{ℕ, ◌+◌}
use mathlib.Core.Path.{◌≡◌, refl, ◌∙◌, ap, ap₂, subst}
use mathlib.Core.Bool.{Bool, true, false, cond}
use mathlib.Core.List.{List, [], ◌∷◌, ◌++◌}
use mathlib.Core.Option.{Option, none, some}
use Rattle.std.specs.Prelude.{Option as Maybe, Some, None, Ok}
use lib.ListN.{length, drop}
use Rattle.buffer.specs.Bytes.{Bytes}
use Rattle.buffer.proofs.Laws.Bytes.{bytes_drop}
use Rattle.literal.specs.declared.Limits.{Limits}
use Rattle.literal.specs.declared.SignedAtom.{SignedAtom}
use Rattle.literal.specs.declared.SignedAtom.TheVariants.{Positive, Negative}
use Rattle.literal.specs.declared.Literal.{Literal}
use Rattle.literal.specs.declared.Literal.TheVariants.{Signed, Defeated, Derived, RuleDefeated}
use Rattle.literal.specs.Literal.{kind, tag_field, atom_field, encoded, opposite}
use Rattle.literal.proofs.Laws.Literal.{encoded-fits}
use Rattle.literal.proofs.Laws.Sign.{option-first}
use Rattle.semantics.specs.Set.{set_of}
use Rattle.semantics.specs.Verdict.{opposed, clash_from}
use Rattle.record.specs.Layout.{encoded_literals}
use Rattle.set.specs.Reading.{parsed_set}
use Rattle.set.specs.Code.{key_set}
use Rattle.set.proofs.Laws.Keys.{keys-behind, literals-lie, read-agree}
use Rattle.check_clash.specs.Code.{opposed_in, clash_at}

-- a position as the search answers it
unfoldable position_of : Option ℕ → Maybe ℕ
position_of none = None
position_of (some k) = Some k

module _ (F : Limits) (most : ℕ) (s : List ℕ) (ls : List Literal) (bytes : Bytes s) (e : parsed_set F most s ≡ Ok ls) where
  -- the literal at the start of a slice
  opposed-encoded : (l : Literal) (rest : List ℕ) → Bytes (encoded l ++ rest) → opposed_in s (length ls) (encoded l ++ rest) ≡ opposed (set_of ls) l
  unfolding opposed_in opposed encoded kind tag_field atom_field opposite
  opposed-encoded (Signed (Positive a)) rest b =
      ap (λ (x : SignedAtom). key_set s (length ls) (Signed (opposite x))) (option-first (Positive a) rest)
      ∙ read-agree F most s ls bytes e (Signed (Negative a)) (encoded-fits (Signed (Positive a)) rest b)
  opposed-encoded (Signed (Negative a)) rest b =
      ap (λ (x : SignedAtom). key_set s (length ls) (Signed (opposite x))) (option-first (Negative a) rest)
      ∙ read-agree F most s ls bytes e (Signed (Positive a)) (encoded-fits (Signed (Negative a)) rest b)
  opposed-encoded (Defeated t (Positive a)) rest b = refl
  opposed-encoded (Defeated t (Negative a)) rest b = refl
  opposed-encoded (Derived t (Positive a)) rest b = refl
  opposed-encoded (Derived t (Negative a)) rest b = refl
  opposed-encoded (RuleDefeated n) rest b = refl

  -- the literals that lie from a place on
  clash-from : (ms : List Literal) (at k : ℕ) → drop at s ≡ encoded_literals ms → clash_at s (length ls) k at (length ms) ≡ position_of (clash_from k (set_of ls) ms)
  unfolding clash_at clash_from position_of encoded_literals
  clash-from [] at k lie = refl
  clash-from (l ∷ ms) at k lie =
      ap₂ (λ (b : Bool) (n : Maybe ℕ). cond b (Some k) n) here (clash-from ms (at + 5) (k + 1) (keys-behind s at l ms lie)) ∙ choose (opposed (set_of ls) l)
    where
      here : opposed_in s (length ls) (drop at s) ≡ opposed (set_of ls) l
      here = ap (opposed_in s (length ls)) lie ∙ opposed-encoded l (encoded_literals ms) (subst Bytes lie (bytes_drop at s bytes))

      choose : (b : Bool) → cond b (Some k) (position_of (clash_from (k + 1) (set_of ls) ms)) ≡ position_of (cond b (some k) (clash_from (k + 1) (set_of ls) ms))
      choose true = refl
      choose false = refl

  clash-answer : clash_at s (length ls) 1 4 (length ls) ≡ position_of (clash_from 1 (set_of ls) ls)
  clash-answer = clash-from ls 4 1 (literals-lie F most s ls bytes e)

  -- a position that is answered is that of the first clash
  pub clash-found : (r : ℕ) → Some r ≡ clash_at s (length ls) 1 4 (length ls) → clash_from 1 (set_of ls) ls ≡ some r
  unfolding position_of
  clash-found r q = go (clash_from 1 (set_of ls) ls) (q ∙ clash-answer)
    where
      go : (o : Option ℕ) → Some r ≡ position_of o → o ≡ some r
      go none x = cc
      go (some k) x = cc

  -- and without an answer there is none
  pub clash-absent : None ≡ clash_at s (length ls) 1 4 (length ls) → clash_from 1 (set_of ls) ls ≡ none
  unfolding position_of
  clash-absent q = go (clash_from 1 (set_of ls) ls) (q ∙ clash-answer)
    where
      go : (o : Option ℕ) → None ≡ position_of o → o ≡ none
      go none x = refl
      go (some k) x = cc
