-- Laws of the clause of a record, by its tests.
-- In order: the clause with a body; the clause. Assumes nothing.
use Rattle.std.specs.Prelude.{ℕ, ◌+◌, ◌*◌, ◌≡◌, Bool, true, false, cond, List, length, Option, Some, None}
use Rattle.std.proofs.Common.{refl, sym, ap}
use lib.Dec.{eqb}
use borrow.Author.Tests.{eq-eqb, ne_eqb}
use Rattle.semantics.specs.Set.{each_of}
use Rattle.record.specs.Header.{defeasible_letter, letter_of, head_count, positive_count, naf_count}
use Rattle.set.specs.Code.{has_key, any_key}
use Rattle.quotient_rule.specs.Code.{left_at}
use Rattle.check_force.specs.declared.Clause.{Clause}
use Rattle.check_clauses.specs.declared.Left.{Left}
use Rattle.check_clauses.specs.Code.{key_mask, keys_at, union, positions_of, literal_mask, left_of, clause_with, clause_at}

module _ (t : List ℕ) (body : ℕ) (s : List ℕ) (n : ℕ) where
  -- a strict rule
  pub with-strict : (letter_of t ≡ defeasible_letter → ⊥)
      → clause_with t body s n ≡ Some (record { body = body; head = union (key_mask s n) (keys_at t 7 (head_count t)) })
  unfolding clause_with
  with-strict d = rw (ne_eqb (letter_of t) defeasible_letter d)

  module _ (d : letter_of t ≡ defeasible_letter) where
    -- a defeasible rule, where no option is left
    pub with_none : None ≡ left_of s n (left_at t s n 7 (head_count t)) → clause_with t body s n ≡ None
    unfolding clause_with left_of
    with_none e = rw (eq-eqb (letter_of t) defeasible_letter d) (go (eqb (length (left_at t s n 7 (head_count t))) 0) e)
      where
        go : (b : Bool)
            → None ≡ cond {A = Option Left} b None
            (Some (record { count = length (left_at t s n 7 (head_count t)); mask = union (literal_mask s n) (left_at t s n 7 (head_count t)) }))
            → cond {A = Option Clause} b None (Some (record { body = body; head = union (literal_mask s n) (left_at t s n 7 (head_count t)) })) ≡ None
        go true q = refl
        go false q = cc

    -- and where one is
    pub with-left : (m : Left) → Some m ≡ left_of s n (left_at t s n 7 (head_count t))
        → clause_with t body s n ≡ Some (record { body = body; head = m.mask })
    unfolding clause_with left_of
    with-left m e = rw (eq-eqb (letter_of t) defeasible_letter d) (go (eqb (length (left_at t s n 7 (head_count t))) 0) e)
      where
        go : (b : Bool)
            → Some m ≡ cond b None
            (Some (record { count = length (left_at t s n 7 (head_count t)); mask = union (literal_mask s n) (left_at t s n 7 (head_count t)) }))
            → cond {A = Option Clause} b None (Some (record { body = body; head = union (literal_mask s n) (left_at t s n 7 (head_count t)) })) ≡ Some (record { body = body; head = m.mask })
        go true q = cc
        go false q = ap (λ (x : ℕ). Some (record { body = body; head = x })) (let z : m.mask ≡ union (literal_mask s n) (left_at t s n 7 (head_count t)) = cc in sym z)

module _ (t s : List ℕ) (n : ℕ) where
  -- a naf literal is in the set
  pub clause-removed : any_key s n (naf_count t) t (7 + 5 * (head_count t + positive_count t)) ≡ true → clause_at t s n ≡ None
  unfolding clause_at
  clause-removed e = rw e

  module _ (e : any_key s n (naf_count t) t (7 + 5 * (head_count t + positive_count t)) ≡ false) where
    -- a positive literal is not
    pub clause-missing : None ≡ positions_of s n (keys_at t (7 + 5 * head_count t) (positive_count t)) → clause_at t s n ≡ None
    unfolding clause_at positions_of
    clause-missing p = rw e (go (each_of (has_key s n) (keys_at t (7 + 5 * head_count t) (positive_count t))) p)
      where
        go : (b : Bool) → None ≡ cond b (Some (union (key_mask s n) (keys_at t (7 + 5 * head_count t) (positive_count t)))) None
            → cond b (clause_with t (union (key_mask s n) (keys_at t (7 + 5 * head_count t) (positive_count t))) s n) None ≡ None
        go true q = cc
        go false q = refl

    -- each is
    pub clause-whole : (m : ℕ) → Some m ≡ positions_of s n (keys_at t (7 + 5 * head_count t) (positive_count t)) → clause_at t s n ≡ clause_with t m s n
    unfolding clause_at positions_of
    clause-whole m p = rw e (go (each_of (has_key s n) (keys_at t (7 + 5 * head_count t) (positive_count t))) p)
      where
        go : (b : Bool) → Some m ≡ cond b (Some (union (key_mask s n) (keys_at t (7 + 5 * head_count t) (positive_count t)))) None
            → cond b (clause_with t (union (key_mask s n) (keys_at t (7 + 5 * head_count t) (positive_count t))) s n) None ≡ clause_with t m s n
        go true q = ap (λ (x : ℕ). clause_with t x s n) (let z : m ≡ union (key_mask s n) (keys_at t (7 + 5 * head_count t) (positive_count t)) = cc in sym z)
        go false q = cc
