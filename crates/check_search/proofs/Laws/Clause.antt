-- What is left of a quotient's rules, as clauses: each rule holds in what a mask picks exactly if its clause holds in the mask.
-- Assumes nothing.
use Rattle.std.specs.Prelude.{ℕ, All}
use Rattle.std.proofs.lemmas.List.Elements.{All-nil, All-cons, All-head, All-tail}
use mathlib.Core.Path.{◌≡◌, refl, sym}
use mathlib.Core.Bool.{Bool, true, false, cond, not, ◌&&◌}
use mathlib.Core.List.{List, [], ◌∷◌}
use mathlib.Core.Logic.{⊎_elim}
use lib.Dec.{T}
use Rattle.literal.specs.declared.Literal.{Literal}
use Rattle.semantics.specs.Set.{LiteralSet, some_of, each_of, set_of}
use Rattle.semantics.specs.Rule.{Remainder}
use Rattle.semantics.specs.Meaning.{holds, models}
use Rattle.semantics.proofs.Laws.Tests.{both, first, second, left, right, either, fails, refuted, decide, along, all-mem, all-intro}
use Rattle.semantics.proofs.Laws.Part.{part-subset}
use Rattle.check_force.specs.declared.Clause.{Clause}
use Rattle.check_force.specs.Code.{Holds, masks_of, clauses_of}
use Rattle.check_force.proofs.Laws.Build.{distinct, picked}
use Rattle.check_search.proofs.Laws.Picked.{picked-part}
use Rattle.check_search.proofs.Laws.Union.{all-within, within_all, any-meets, none_apart}

module _ (x : ℕ) (ls : List Literal) (d : T (distinct ls)) where
  abbrev u : LiteralSet
  u = set_of (picked x ls)

  -- a rule whose positive literals are all in the list
  pub holds-clause : (q : Remainder) → T (each_of (set_of ls) q.positive) → T (holds q u) → Holds (masks_of ls q.positive) (masks_of ls q.head) x
  unfolding holds
  holds-clause q y t w a =
      ⊎_elim (λ n. fails (each_of u q.positive) n (within_all x ls d q.positive y w)) (λ s. any-meets x ls d q.head s a)
      (either (not (each_of u q.positive)) (some_of u q.head) t)

  pub clause-holds : (q : Remainder) → T (each_of (set_of ls) q.positive) → Holds (masks_of ls q.positive) (masks_of ls q.head) x → T (holds q u)
  unfolding holds
  clause-holds q y h =
      ⊎_elim
      (λ p. ⊎_elim (λ t. right (not (each_of u q.positive)) (some_of u q.head) t)
      (λ n. absurd (h (all-within x ls d q.positive p) (none_apart x ls d q.head n))) (decide (some_of u q.head)))
      (λ n. left (not (each_of u q.positive)) (some_of u q.head) (refuted (each_of u q.positive) n)) (decide (each_of u q.positive))

  -- any other holds in each part
  pub left_out : (q : Remainder) → (T (each_of (set_of ls) q.positive) → ⊥) → T (holds q u)
  unfolding holds
  left_out q n =
      left (not (each_of u q.positive)) (some_of u q.head)
      (refuted (each_of u q.positive) (λ t. n (all-intro (set_of ls) q.positive (λ l m. part-subset (picked-part x ls) l (all-mem u t m)))))

  -- each clause of a list holds in x
  abbrev HoldsIn : Clause → Type 0
  HoldsIn c = Holds c.body c.head x

  -- the rules of a quotient hold in what a mask picks exactly if each of their clauses holds in the mask
  pub models-clauses : (qs : List Remainder) → T (models qs u) → All HoldsIn (clauses_of ls qs)
  unfolding models clauses_of
  models-clauses [] t = All-nil HoldsIn
  models-clauses (q ∷ qs) t =
      go (each_of (set_of ls) q.positive) refl (first (holds q u) (models qs u) t) (models-clauses qs (second (holds q u) (models qs u) t))
    where
      go : (b : Bool) → each_of (set_of ls) q.positive ≡ b → T (holds q u) → All HoldsIn (clauses_of ls qs)
          → All HoldsIn (cond b (record { body = masks_of ls q.positive; head = masks_of ls q.head } ∷ clauses_of ls qs) (clauses_of ls qs))
      go true e s ih =
          All-cons HoldsIn (record { body = masks_of ls q.positive; head = masks_of ls q.head }) (clauses_of ls qs) (holds-clause q (along (sym e) tt) s) ih
      go false e s ih = ih

  pub clauses-models : (qs : List Remainder) → All HoldsIn (clauses_of ls qs) → T (models qs u)
  unfolding models clauses_of
  clauses-models [] h = tt
  clauses-models (q ∷ qs) h = go (each_of (set_of ls) q.positive) refl h (clauses-models qs)
    where
      go : (b : Bool) → each_of (set_of ls) q.positive ≡ b
          → All HoldsIn (cond b (record { body = masks_of ls q.positive; head = masks_of ls q.head } ∷ clauses_of ls qs) (clauses_of ls qs))
          → (All HoldsIn (clauses_of ls qs) → T (models qs u)) → T (holds q u && models qs u)
      go true e h ih =
          let c : Clause = record { body = masks_of ls q.positive; head = masks_of ls q.head } in
          both (holds q u) (models qs u) (clause-holds q (along (sym e) tt) (All-head HoldsIn c (clauses_of ls qs) h))
          (ih (All-tail HoldsIn c (clauses_of ls qs) h))
      go false e h ih = both (holds q u) (models qs u) (left_out q (along e)) (ih h)
