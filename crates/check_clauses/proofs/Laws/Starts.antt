-- The clause of a record is that of what the set of keys leaves of its rule.
-- In order: a strict rule; a defeasible one, by the options that are left; whatever the rule. Assumes nothing.
use Prim.Native.Nat.{ℕ}
use native.Mathlib.Omega.{arith}
use mathlib.Core.Path.{◌≡◌, refl, ◌∙◌, ap}
use mathlib.Core.Bool.{Bool, true, false, cond}
use mathlib.Core.List.{List, [], ◌∷◌, map}
use mathlib.Core.Option.{none, some}
use Rattle.std.specs.Prelude.{Option as Maybe, Some, None}
use lib.Dec.{eqb}
use lib.ListN.{length}
use borrow.Author.Tests.{ne_eqb}
use Rattle.literal.specs.declared.Tag.{Tag}
use Rattle.literal.specs.declared.SignedAtom.{SignedAtom}
use Rattle.literal.specs.declared.Literal.{Literal}
use Rattle.literal.specs.declared.Literal.TheVariants.{Signed}
use Rattle.semantics.specs.Set.{LiteralSet, some_of, each_of}
use Rattle.semantics.specs.Rule.{Rule, strict, defeasible}
use Rattle.semantics.specs.Meaning.{undefeated, unless_empty, remainder}
use Rattle.record.specs.Header.{strict_letter, defeasible_letter}
use Rattle.record_walk.specs.Code.{Starts}
use Rattle.record_walk.proofs.Laws.Fields.{strict-fields, defeasible-fields}
use Rattle.set.specs.Code.{key_set}
use Rattle.quotient_rule.proofs.Laws.Rule.{left-undefeated}
use Rattle.check_force.specs.declared.Clause.{Clause}
use Rattle.check_clauses.specs.Code.{union, literal_mask, clause_with, clause_at}
use Rattle.check_clauses.proofs.Laws.Agree.{clause_of}
use Rattle.check_clauses.proofs.Laws.Record.{clause-fields, with-fields}

module _ (t s : List ℕ) (n : ℕ) where
  strict-starts : (h b c : List Literal) → Starts t (strict h b c)
      → clause_at t s n ≡ clause_of (key_set s n) (literal_mask s n) (remainder (strict h b c) (key_set s n))
  unfolding remainder clause_of
  strict-starts h b c w =
      let f = strict-fields t h b c w in
      clause-fields t s n strict_letter 0 h b c w.rest f
      ∙ ap (λ (x : Maybe Clause). cond (some_of (key_set s n) c) None (cond (each_of (key_set s n) b) x None))
      (with-fields t s n strict_letter 0 h b c w.rest f (union (literal_mask s n) b) refl)
      ∙ go (some_of (key_set s n) c)
    where
      go : (x : Bool) → cond x None (cond (each_of (key_set s n) b)
          (Some (record { body = union (literal_mask s n) b; head = union (literal_mask s n) h })) None)
          ≡ clause_of (key_set s n) (literal_mask s n) (cond x none (some (record { head = h; positive = b })))
      go true = refl
      go false = refl

  with-options : (g : Tag) (h : List SignedAtom) (b c : List Literal) → Starts t (defeasible g h b c) → (body : ℕ)
      → clause_with t body s n ≡ cond (eqb (length (undefeated g h (key_set s n))) 0) None
      (Some (record { body = body; head = union (literal_mask s n) (undefeated g h (key_set s n)) }))
  unfolding clause_with
  with-options g h b c w body = rw ((defeasible-fields t g h b c w).of-letter, left-undefeated t s n g h b c w)

-- the clause of options that are left
option-clause : (u : LiteralSet) (f : Literal → ℕ) (b ls : List Literal)
    → cond (each_of u b) (cond (eqb (length ls) 0) None (Some (record { body = union f b; head = union f ls }))) None
    ≡ clause_of u f (unless_empty ls b)
unfolding clause_of unless_empty
option-clause u f b [] = go (each_of u b)
  where
    go : (x : Bool) → cond {A = Maybe Clause} x None None ≡ None
    go true = refl
    go false = refl
option-clause u f b (l ∷ ls) = rw (ne_eqb (length (l ∷ ls)) 0 (λ e. omega arith))

module _ (t s : List ℕ) (n : ℕ) where
  defeasible-starts : (g : Tag) (h : List SignedAtom) (b c : List Literal) → Starts t (defeasible g h b c)
      → clause_at t s n ≡ clause_of (key_set s n) (literal_mask s n) (remainder (defeasible g h b c) (key_set s n))
  unfolding remainder clause_of
  defeasible-starts g h b c w =
      clause-fields t s n defeasible_letter g.0 (map Signed h) b c w.rest (defeasible-fields t g h b c w)
      ∙ ap (λ (x : Maybe Clause). cond (some_of (key_set s n) c) None (cond (each_of (key_set s n) b) x None))
      (with-options t s n g h b c w (union (literal_mask s n) b))
      ∙ ap (cond (some_of (key_set s n) c) None) (option-clause (key_set s n) (literal_mask s n) b (undefeated g h (key_set s n)))
      ∙ go (some_of (key_set s n) c)
    where
      go : (x : Bool) → cond x None (clause_of (key_set s n) (literal_mask s n) (unless_empty (undefeated g h (key_set s n)) b))
          ≡ clause_of (key_set s n) (literal_mask s n) (cond x none (unless_empty (undefeated g h (key_set s n)) b))
      go true = refl
      go false = refl

  -- whatever the rule
  pub clause-starts : (r : Rule) → Starts t r → clause_at t s n ≡ clause_of (key_set s n) (literal_mask s n) (remainder r (key_set s n))
  clause-starts (strict h b c) w = strict-starts t s n h b c w
  clause-starts (defeasible g h b c) w = defeasible-starts g h b c w
