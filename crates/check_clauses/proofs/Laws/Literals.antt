-- The clause of a record, over the literals of the list that a set's slice holds. The slices' elements are bytes, so each
-- literal in them has fields that fit two bytes, and keys tell literals apart.
-- In order: a literal's position; the clause. Assumes nothing.
use Prim.Native.Nat.{ℕ, ◌+◌, ◌^◌}
use mathlib.Core.Path.{◌≡◌, refl, ◌∙◌, ap, ap₂, subst}
use mathlib.Core.Bool.{Bool, cond}
use mathlib.Core.List.{List, [], ◌∷◌}
use lib.Dec.{eqb}
use lib.ListN.{length, drop}
use Rattle.buffer.specs.Bytes.{Bytes}
use Rattle.buffer.proofs.Laws.Bytes.{bytes-front}
use Rattle.literal.specs.declared.Literal.{Literal}
use Rattle.literal.specs.Order.{key}
use Rattle.literal.proofs.Laws.Literal.{Fits}
use Rattle.semantics.specs.Set.{set_of}
use Rattle.semantics.specs.Rule.{Rule}
use Rattle.semantics.specs.Meaning.{remainder}
use Rattle.semantics.proofs.Laws.Tests.{Each}
use Rattle.record.specs.Layout.{encoded_literals, encoded_rule}
use Rattle.record.proofs.Laws.Fit.{rule_fits}
use Rattle.record_walk.specs.Code.{Starts}
use Rattle.set.specs.Code.{key_set}
use Rattle.set.proofs.Laws.Keys.{key_here, keys-behind, same_key, members-fit, keys-agree}
use Rattle.check_force.specs.Code.{mask_of}
use Rattle.check_clauses.specs.Code.{key_mask_from, key_mask, literal_mask, clause_at}
use Rattle.check_clauses.proofs.Laws.Agree.{clause_of, rule-same}
use Rattle.check_clauses.proofs.Laws.Starts.{clause-starts}

module _ (s : List ℕ) (l : Literal) (fit : Fits l) where
  mask-from : (ms : List Literal) (at : ℕ) → drop at s ≡ encoded_literals ms → Each Fits ms → key_mask_from s at (length ms) (key l) ≡ mask_of ms l
  unfolding key_mask_from mask_of
  mask-from [] at e h = refl
  mask-from (m ∷ ms) at e h =
      ap₂ (λ (x : Bool) (k : ℕ). cond x (2 ^ length ms) k)
      (ap (λ (i : ℕ). eqb i (key l)) (key_here s at m ms e) ∙ same_key l m fit h.0)
      (mask-from ms (at + 5) (keys-behind s at m ms e) h.1)

  -- the mask of a literal's key is that of its position in the list
  mask-literals : (ls : List Literal) → Bytes s → drop 4 s ≡ encoded_literals ls → literal_mask s (length ls) l ≡ mask_of ls l
  unfolding key_mask
  mask-literals ls bytes lie = mask-from ls 4 lie (members-fit s ls bytes lie)

-- the clause of what the set of the list leaves of the rule whose record starts t
module _ (t s : List ℕ) (ls : List Literal) (part : Bytes t) (bytes : Bytes s) (lie : drop 4 s ≡ encoded_literals ls) where
  pub clause-rule : (r : Rule) → Starts t r → clause_at t s (length ls) ≡ clause_of (set_of ls) (mask_of ls) (remainder r (set_of ls))
  clause-rule r w =
      clause-starts t s (length ls) r w
      ∙ rule-same Fits (key_set s (length ls)) (set_of ls) (literal_mask s (length ls)) (mask_of ls) (keys-agree s ls bytes lie)
      (λ l fit. mask-literals s l fit ls bytes lie)
      r (rule_fits r (bytes-front (encoded_rule r) w.rest (subst Bytes w.bytes part)))
