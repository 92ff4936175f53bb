-- The search on masks finds the first smaller model of a set (01, "Check").
-- Assumes nothing.
use Rattle.std.specs.Prelude.{Option}
use Prim.Native.Nat.{ℕ, ◌-◌, ◌^◌, ◌<◌}
use native.Mathlib.Nat.{mod-eq_of_lt}
use native.Mathlib.Omega.{arith}
use mathlib.Core.Path.{◌≡◌, sym, subst}
use mathlib.Core.Bool.{not}
use mathlib.Core.List.{List}
use lib.Dec.{T}
use lib.ListN.{length}
use lib.Pow.{pow_pos}
use Rattle.literal.specs.declared.Literal.{Literal}
use Rattle.semantics.specs.Set.{each_of, set_of}
use Rattle.semantics.specs.Rule.{Remainder}
use Rattle.semantics.specs.Meaning.{models}
use Rattle.semantics.specs.Verdict.{first_subset, smaller_model}
use Rattle.semantics.proofs.Laws.Tests.{both, first, second, fails, refuted, all-intro}
use Rattle.semantics.proofs.Laws.Set.{set-of-mem}
use Rattle.mask.proofs.Laws.Place.{within-ones, ones-within}
use Rattle.check_force.specs.Code.{Smaller, clauses_of}
use Rattle.check_force.proofs.Laws.Build.{distinct, picked}
use Rattle.check_search.specs.Code.{First}
use Rattle.check_search.proofs.Laws.Found.{found_in}
use Rattle.check_search.proofs.Laws.Picked.{first-picked}
use Rattle.check_search.proofs.Laws.Clause.{models-clauses, clauses-models}
use Rattle.check_search.proofs.Laws.Whole.{picked-whole, whole-picked}

-- over the clauses of a quotient
module _ (ls : List Literal) (d : T (distinct ls)) (qs : List Remainder) where
  abbrev whole : ℕ
  whole = 2 ^ length ls - 1

  smaller-lt : (x : ℕ) → Smaller whole (clauses_of ls qs) x → x < 2 ^ length ls
  smaller-lt x s = within-ones (length ls) x s.within

  -- a smaller mask picks a smaller model
  smaller-passes : (x : ℕ) → Smaller whole (clauses_of ls qs) x → T (smaller_model qs ls (picked x ls))
  unfolding smaller_model
  smaller-passes x s =
      both (not (each_of (set_of (picked x ls)) ls)) (models qs (set_of (picked x ls)))
      (refuted (each_of (set_of (picked x ls)) ls)
      (λ t. s.proper (omega (arith, whole-picked x ls d t, mod-eq_of_lt (smaller-lt x s)))))
      (clauses-models x ls d qs s.each)

  -- and a mask that picks one is smaller
  passes-smaller : (x : ℕ) → x < 2 ^ length ls → T (smaller_model qs ls (picked x ls)) → Smaller whole (clauses_of ls qs) x
  unfolding smaller_model
  passes-smaller x h t =
      record {
        within = ones-within (length ls) x h;
        proper =
            λ e. fails (each_of (set_of (picked x ls)) ls) (first (not (each_of (set_of (picked x ls)) ls)) (models qs (set_of (picked x ls))) t) (everything e);
        each = models-clauses x ls d qs (second (not (each_of (set_of (picked x ls)) ls)) (models qs (set_of (picked x ls))) t);
      }
    where
      everything : x ≡ whole → T (each_of (set_of (picked x ls)) ls)
      everything e =
          subst (λ (s : List Literal). T (each_of (set_of s) ls)) (sym (picked-whole x ls (omega (arith, mod-eq_of_lt h, pow_pos (length ls)))))
          (all-intro (set_of ls) ls (λ l m. set-of-mem m))

  -- the smallest is the first smaller model
  pub first-smaller-model : (r : Option ℕ) → First (Smaller whole (clauses_of ls qs)) r → first_subset ls (smaller_model qs ls) ≡ found_in ls r
  first-smaller-model = first-picked ls (smaller_model qs ls) smaller-lt smaller-passes passes-smaller
