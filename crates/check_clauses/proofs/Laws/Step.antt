-- Laws of one rule more, by what its clause tells: whether it is broken, and the clauses of the rules before it and its own.
-- In order: the first broken rule of an append; the clauses of an append; a rule that is broken, and one that is not; the clauses of one
-- rule more.
-- Assumes nothing.
use Prim.Native.Nat.{ℕ, ◌+◌, ◌<◌}
use native.Mathlib.Omega.{arith}
use native.Mathlib.Numerals.{add-one}
use mathlib.Core.Path.{◌≡◌, refl, sym, ◌∙◌, ap}
use mathlib.Core.Bool.{Bool, true, false, cond}
use mathlib.Core.List.{List, [], ◌∷◌, ◌++◌, append-nil}
use mathlib.Core.Option.{none, some}
use lib.ListN.{length, take, set}
use lib.Seq.{take-suc-set}
use Rattle.literal.specs.declared.Literal.{Literal}
use Rattle.semantics.specs.Set.{LiteralSet, each_of, set_of}
use Rattle.semantics.specs.Rule.{Rule, Program, Remainder}
use Rattle.semantics.specs.Meaning.{remainder, with_remainder, quotient, satisfied}
use Rattle.semantics.specs.Verdict.{broken_from}
use Rattle.semantics.proofs.Laws.Meaning.{quotient-append}
use Rattle.check_force.specs.declared.Clause.{Clause}
use Rattle.check_force.specs.Code.{masks_of, clauses_of}
use Rattle.check_clauses.proofs.Laws.Told.{Without, With}

-- where no rule of the first part is broken, the second part's first is the first
pub broken-append : (s : LiteralSet) (n : ℕ) (p q : Program) → broken_from n p s ≡ none → broken_from n (p ++ q) s ≡ broken_from (n + length p) q s
unfolding broken_from
broken-append s n [] q e = ap (λ (k : ℕ). broken_from k q s) (omega arith)
broken-append s n (r ∷ p) q e = go (satisfied (remainder r s) s) e (broken-append s (n + 1) p q)
  where
    go : (b : Bool) → cond b (broken_from (n + 1) p s) (some n) ≡ none
        → (broken_from (n + 1) p s ≡ none → broken_from (n + 1) (p ++ q) s ≡ broken_from (n + 1 + length p) q s)
        → cond b (broken_from (n + 1) (p ++ q) s) (some n) ≡ broken_from (n + length (r ∷ p)) q s
    go true k rest = rest k ∙ ap (λ (m : ℕ). broken_from m q s) (omega arith)
    go false k rest = let z : ◌≡◌ {A = ℕ} 0 1 = cc in absurd (omega arith)

module _ (ls : List Literal) where
  -- the clauses of an append
  clauses-append : (qs rs : List Remainder) → clauses_of ls (qs ++ rs) ≡ clauses_of ls qs ++ clauses_of ls rs
  unfolding clauses_of
  clauses-append [] rs = refl
  clauses-append (q ∷ qs) rs = go (each_of (set_of ls) q.positive) (clauses-append qs rs)
    where
      c : Clause
      c = record { body = masks_of ls q.positive; head = masks_of ls q.head }

      go : (b : Bool) → clauses_of ls (qs ++ rs) ≡ clauses_of ls qs ++ clauses_of ls rs
          → cond b (c ∷ clauses_of ls (qs ++ rs)) (clauses_of ls (qs ++ rs)) ≡ cond b (c ∷ clauses_of ls qs) (clauses_of ls qs) ++ clauses_of ls rs
      go true e = ap (λ (cs : List Clause). c ∷ cs) e
      go false e = e

  -- one rule more
  module _ (gone : Program) (r : Rule) where
    clauses-next : clauses_of ls (quotient (gone ++ r ∷ []) (set_of ls))
        ≡ clauses_of ls (quotient gone (set_of ls)) ++ clauses_of ls (with_remainder (remainder r (set_of ls)) [])
    unfolding quotient
    clauses-next =
        ap (clauses_of ls) (quotient-append gone (r ∷ []) (set_of ls)) ∙ clauses-append (quotient gone (set_of ls)) (quotient (r ∷ []) (set_of ls))

    -- where none before it is broken
    module _ (before : broken_from 1 gone (set_of ls) ≡ none) where
      pub next-holds : satisfied (remainder r (set_of ls)) (set_of ls) ≡ true → broken_from 1 (gone ++ r ∷ []) (set_of ls) ≡ none
      unfolding broken_from
      next-holds e = broken-append (set_of ls) 1 gone (r ∷ []) before ∙ rw e

      pub next-broken : satisfied (remainder r (set_of ls)) (set_of ls) ≡ false → (behind : Program)
          → broken_from 1 (gone ++ r ∷ behind) (set_of ls) ≡ some (1 + length gone)
      unfolding broken_from
      next-broken e behind = broken-append (set_of ls) 1 gone (r ∷ behind) before ∙ rw e

    -- the first i clauses of a slice are those before it: it has none, or its clause is stored behind them
    module _ (d : List Clause) (i : ℕ) (e : take i d ≡ clauses_of ls (quotient gone (set_of ls))) where
      pub next-without : Without ls (remainder r (set_of ls)) → take i d ≡ clauses_of ls (quotient (gone ++ r ∷ []) (set_of ls))
      unfolding clauses_of
      next-without w =
          e ∙ sym (clauses-next ∙ ap (λ (cs : List Clause). clauses_of ls (quotient gone (set_of ls)) ++ cs) (w.none-more [])
          ∙ append-nil (clauses_of ls (quotient gone (set_of ls))))

      pub next-with : (c : Clause) → With ls (remainder r (set_of ls)) c → i < length d
          → take (i + 1) (set d i c) ≡ clauses_of ls (quotient (gone ++ r ∷ []) (set_of ls))
      unfolding clauses_of
      next-with c w h =
          ap (λ (k : ℕ). take k (set d i c)) (add-one i) ∙ take-suc-set d i c h ∙ ap (λ (cs : List Clause). cs ++ c ∷ []) e
          ∙ sym (clauses-next ∙ ap (λ (cs : List Clause). clauses_of ls (quotient gone (set_of ls)) ++ cs) (w.one-more []))
