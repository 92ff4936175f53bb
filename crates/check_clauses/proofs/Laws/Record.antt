-- The clause of a record, by the literals that stand in it.
-- In order: the keys of literals in a slice; a record's positive literals and head; its clause.
-- Assumes nothing.
use Prim.Native.Nat.{ℕ, ◌+◌, ◌*◌}
use mathlib.Core.Path.{◌≡◌, refl, sym, ◌∙◌, ap, ap₂}
use mathlib.Core.Bool.{cond}
use mathlib.Core.List.{List, [], ◌∷◌, ◌++◌, map, append_assoc}
use lib.Bits.{bit_or}
use lib.ListN.{length, drop}
use lib.Seq.{drop-drop, drop_at}
use Rattle.literal.specs.declared.Literal.{Literal}
use Rattle.literal.specs.Literal.{encoded}
use Rattle.literal.specs.Order.{key}
use Rattle.literal.specs.Code.{key_at}
use Rattle.literal.proofs.Laws.Literal.{length-encoded}
use Rattle.literal.proofs.Laws.Order.{key_at-encoded}
use Rattle.semantics.specs.Set.{some_of, each_of}
use Rattle.semantics.proofs.Laws.Tests.{all_map}
use Rattle.record.specs.Header.{strict_letter, head_count, positive_count}
use Rattle.record.specs.Layout.{encoded_literals}
use Rattle.record_walk.proofs.Laws.Fields.{Fields, literals-first, literals-next}
use Rattle.set.specs.Code.{has_key, key_set}
use Rattle.quotient_rule.proofs.Laws.Rule.{nafs-met}
use Rattle.std.specs.Prelude.{Some, None}
use Rattle.check_clauses.specs.Code.{key_mask, keys_at, union, literal_mask, clause_with, clause_at}

-- the keys of literals that stand in a slice
keys-spelled : (t : List ℕ) (ls : List Literal) (at : ℕ) (rest : List ℕ) → drop at t ≡ encoded_literals ls ++ rest → keys_at t at (length ls) ≡ map key ls
unfolding keys_at encoded_literals
keys-spelled t [] at rest e = refl
keys-spelled t (l ∷ ls) at rest e =
    let here = e ∙ append_assoc (encoded l) (encoded_literals ls) rest in
    let next = sym (drop-drop 5 at t) ∙ ap (drop 5) here ∙ drop_at (encoded l) (encoded_literals ls ++ rest) 5 (length-encoded l) in
    ap₂ (λ (k : ℕ) (ks : List ℕ). k ∷ ks) (ap key_at here ∙ key_at-encoded l (encoded_literals ls ++ rest)) (keys-spelled t ls (at + 5) rest next)

union-map : (f : ℕ → ℕ) (ls : List Literal) → union f (map key ls) ≡ union (λ l. f (key l)) ls
unfolding union
union-map f [] = refl
union-map f (l ∷ ls) = ap (bit_or (f (key l))) (union-map f ls)

-- a record's positive literals and head
module _ (t s : List ℕ) (n : ℕ) (letter tag : ℕ) (h b c : List Literal) (rest : List ℕ) (f : Fields t letter tag h b c rest) where
  fields-positives : keys_at t (7 + 5 * head_count t) (positive_count t) ≡ map key b
  fields-positives =
      rw (f.heads, f.positives)
      (keys-spelled t b (7 + 5 * length h) (encoded_literals c ++ rest) (literals-first _ rest b c (literals-next t rest 7 h (b ++ c) f.literals)))

  fields-heads : keys_at t 7 (head_count t) ≡ map key h
  fields-heads = rw f.heads (keys-spelled t h 7 (encoded_literals (b ++ c) ++ rest) (literals-first (drop 7 t) rest h (b ++ c) f.literals))

  pub clause-fields : clause_at t s n ≡ cond (some_of (key_set s n) c) None
      (cond (each_of (key_set s n) b) (clause_with t (union (literal_mask s n) b) s n) None)
  unfolding clause_at
  clause-fields = rw (nafs-met t s n letter tag h b c rest f, fields-positives, all_map (has_key s n) key b, union-map (key_mask s n) b)

  -- with the letter of a strict rule
  pub with-fields : (body : ℕ) → letter ≡ strict_letter → clause_with t body s n ≡ Some (record { body = body; head = union (literal_mask s n) h })
  unfolding clause_with
  with-fields body e = rw (f.of-letter, e, fields-heads, union-map (key_mask s n) h)
