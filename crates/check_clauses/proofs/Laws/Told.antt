-- What a rule's clause tells of the rule: whether what is left of it holds in the whole set, and what it adds to the clauses of
-- a quotient.
-- In order: unions of positions; a rule without a clause, and with one; the test for a broken rule. Assumes nothing.
use Prim.Native.Nat.{ℕ}
use native.Mathlib.Omega.{arith}
use mathlib.Core.Path.{◌≡◌, refl, sym, ◌∙◌, ap, ap₂}
use mathlib.Core.Bool.{Bool, true, false, cond, not, ◌||◌}
use mathlib.Core.List.{List, [], ◌∷◌}
use mathlib.Core.Option.{Option, none, some}
use Rattle.std.specs.Prelude.{Option as Maybe, Some, None, MatchOption}
use lib.Bits.{bit_or, or_zero_l}
use lib.Dec.{eqb}
use borrow.Author.Tests.{eq-eqb, ne_eqb}
use Rattle.literal.specs.declared.Literal.{Literal}
use Rattle.semantics.specs.Set.{some_of, each_of, set_of}
use Rattle.semantics.specs.Rule.{Remainder}
use Rattle.semantics.specs.Meaning.{with_remainder, holds, satisfied}
use Rattle.semantics.proofs.Laws.Tests.{along, is_false}
use Rattle.mask.proofs.Laws.Part.{or-none}
use Rattle.check_force.specs.Code.{mask_of, masks_of, clauses_of}
use Rattle.check_force.proofs.Laws.Build.{mask-some, mask-none, clauses_kept, clauses-left-out}
use Rattle.check_force.specs.declared.Clause.{Clause}
use Rattle.check_clauses.specs.Code.{union}
use Rattle.check_clauses.proofs.Laws.Agree.{clause_of}

module _ (ls : List Literal) where
  masks-union : (qs : List Literal) → union (mask_of ls) qs ≡ masks_of ls qs
  unfolding union masks_of
  masks-union [] = refl
  masks-union (q ∷ qs) = ap (bit_or (mask_of ls q)) (masks-union qs)

  -- a union is empty exactly if no literal is in the list
  masks-empty : (qs : List Literal) → union (mask_of ls) qs ≡ 0 → some_of (set_of ls) qs ≡ false
  unfolding union
  masks-empty [] e = refl
  masks-empty (q ∷ qs) e =
      let both = or-none (mask_of ls q) (union (mask_of ls) qs) e in
      ap₂ (λ (x y : Bool). x || y) (is_false (set_of ls q) (λ t. omega (arith, mask-some ls q t, both.0))) (masks-empty qs both.1)

  none-masks : (qs : List Literal) → some_of (set_of ls) qs ≡ false → union (mask_of ls) qs ≡ 0
  unfolding union
  none-masks [] e = refl
  none-masks (q ∷ qs) e = go (set_of ls q) refl e (none-masks qs)
    where
      go : (b : Bool) → set_of ls q ≡ b → (b || some_of (set_of ls) qs) ≡ false → (some_of (set_of ls) qs ≡ false → union (mask_of ls) qs ≡ 0)
          → bit_or (mask_of ls q) (union (mask_of ls) qs) ≡ 0
      go true k z ih = absurd (let o : ◌≡◌ {A = ℕ} 0 1 = cc in omega arith)
      go false k z ih = ap₂ bit_or (mask-none ls q (along k)) (ih z) ∙ or_zero_l 0

  any-masks : (qs : List Literal) → some_of (set_of ls) qs ≡ not (eqb (union (mask_of ls) qs) 0)
  any-masks qs = go (some_of (set_of ls) qs) refl
    where
      go : (b : Bool) → some_of (set_of ls) qs ≡ b → b ≡ not (eqb (union (mask_of ls) qs) 0)
      go true e = ap not (sym (ne_eqb (union (mask_of ls) qs) 0 (λ z. let o : ◌≡◌ {A = ℕ} 0 1 = cc (masks-empty qs z) in omega arith)))
      go false e = ap not (sym (eq-eqb (union (mask_of ls) qs) 0 (none-masks qs e)))

  -- no clause: what is left, if anything is, holds in each part of the list
  pub record Without (o : Option Remainder) : Type 0 where
    pub holds-so : satisfied o (set_of ls) ≡ true
    pub none-more : (qs : List Remainder) → clauses_of ls (with_remainder o qs) ≡ clauses_of ls qs

  -- a clause: what is left holds in the list's set exactly if its head is not empty
  pub record With (o : Option Remainder) (c : Clause) : Type 0 where
    pub holds_by : satisfied o (set_of ls) ≡ not (eqb c.head 0)
    pub one-more : (qs : List Remainder) → clauses_of ls (with_remainder o qs) ≡ c ∷ clauses_of ls qs

  abbrev pub Told : Option Remainder → Maybe Clause → Type 0
  Told o r = MatchOption r (Without o) (With o)

  told-some : (q : Remainder) (b : Bool) → each_of (set_of ls) q.positive ≡ b
      → Told (some q) (cond b (Some (record { body = union (mask_of ls) q.positive; head = union (mask_of ls) q.head })) None)
  unfolding with_remainder satisfied holds
  told-some q true k =
      record {
        holds_by = ap (λ (x : Bool). not x || some_of (set_of ls) q.head) k ∙ any-masks q.head;
        one-more = λ qs.
            clauses_kept ls q qs (along (sym k) tt)
            ∙ ap₂ (λ (b h : ℕ). record { body = b; head = h } ∷ clauses_of ls qs) (sym (masks-union q.positive)) (sym (masks-union q.head));
      }
  told-some q false k =
      record {
        holds-so = ap (λ (x : Bool). not x || some_of (set_of ls) q.head) k;
        none-more = λ qs. clauses-left-out ls q qs (along k);
      }

  -- the clause of a rule tells
  pub told : (o : Option Remainder) → Told o (clause_of (set_of ls) (mask_of ls) o)
  unfolding clause_of with_remainder satisfied
  told none = record { holds-so = refl; none-more = λ qs. refl }
  told (some q) = told-some q (each_of (set_of ls) q.positive) refl

  module _ (o : Option Remainder) (c : Clause) (w : With o c) where
    -- the rule is broken exactly if its clause has no head
    pub told-holds : (c.head ≡ 0 → ⊥) → satisfied o (set_of ls) ≡ true
    told-holds n = w.holds_by ∙ ap not (ne_eqb c.head 0 n)

    pub told-broken : c.head ≡ 0 → satisfied o (set_of ls) ≡ false
    told-broken e = w.holds_by ∙ ap not (eq-eqb c.head 0 e)
