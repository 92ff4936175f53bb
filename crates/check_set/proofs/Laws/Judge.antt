-- Laws of judging a set: what its parts need, and what each way out means.
-- In order: the set's slice; the clauses; a clash; a broken rule; the search's end. Assumes nothing.
use Prim.Native.Nat.{ℕ, ◌+◌, ◌-◌, ◌*◌, ◌^◌, ◌≤◌}
use native.Mathlib.Omega.{arith}
use mathlib.Core.Path.{◌≡◌, sym, subst}
use mathlib.Core.List.{List}
use mathlib.Core.Option.{none}
use Rattle.std.specs.Prelude.{Option, Some, None, Ok, Err}
use lib.ListN.{length, take}
use Rattle.buffer.specs.Write.{write}
use Rattle.literal.specs.declared.Limits.{Limits}
use Rattle.literal.specs.declared.Literal.{Literal}
use Rattle.literal.specs.declared.RuleNo.{RuleNo}
use Rattle.semantics.specs.Set.{set_of}
use Rattle.semantics.specs.Meaning.{quotient}
use Rattle.semantics.specs.Verdict.{clash_from, first_subset, smaller_model}
use Rattle.set.specs.Layout.{encoded_set}
use Rattle.set.specs.Reading.{parsed_set}
use Rattle.set.specs.Code.{Ascends}
use Rattle.set.proofs.Laws.Reading.{keeps-set-ascending, parsed-set-sound, length-parsed-set}
use Rattle.set.proofs.Laws.Keys.{literals-lie, set-ascends}
use Rattle.check_force.specs.declared.Clause.{Clause}
use Rattle.check_force.specs.Code.{Smaller}
use Rattle.check_force.proofs.Laws.Build.{picked}
use Rattle.check_search.specs.Code.{First}
use Rattle.check_search.proofs.Laws.Found.{found_in}
use Rattle.check_search.proofs.Laws.Bridge.{first-smaller-model}
use Rattle.check_clauses.specs.Code.{Whole, Clauses}
use Rattle.check_clash.specs.Code.{clash_at}
use Rattle.check_clash.proofs.Laws.Opposed.{clash-found, clash-absent}
use Rattle.check_witness.specs.Code.{picked_record}
use Rattle.check_witness.proofs.Laws.Witness.{picked-record}
use Rattle.check_set.specs.declared.Verdict.{Verdict}
use Rattle.check_set.specs.Code.{found_record, found_verdict, Decided, Judgeable, Meant, Judged}
use Rattle.check_set.proofs.Laws.Distinct.{ascending-distinct}
use Rattle.check_set.proofs.Laws.Finding.{finds-clash, finds-broken, finds-smaller, finds-answer-set}
use Rattle.check_set.proofs.Laws.Meant.{meant-clash, meant-broken, meant-smaller, meant-yes}

module _ {s k : List ℕ} {n b size : ℕ} (j : Judgeable s k n b size) where
  -- the set's slice is as long as its literals, and they ascend
  pub judge-long : length k ≡ 4 + 5 * n
  judge-long =
      omega (arith, length-parsed-set j.form j.most k j.literals j.set_bytes j.members, j.count)

  pub judge-ascends : Ascends k n
  judge-ascends = subst (Ascends k) j.count (set-ascends j.form j.most k j.literals j.set_bytes j.members)

  -- no more clauses than there is room for
  pub judge-few : {count : ℕ} {clauses : List Clause} → Clauses s k n (Ok count) clauses → count ≤ b
  judge-few c =
      let p = j.program in
      omega (
        arith,
        (c p.program j.literals p.bytes (parsed-set-sound j.form j.most k j.literals j.set_bytes j.members).0 j.count).few,
        p.asked.clauses,
      )

  -- a set that the slice holds has n literals
  counted : (F : Limits) (most : ℕ) (ls : List Literal) → parsed_set F most k ≡ Ok ls → length ls ≡ n
  counted F most ls held = omega (arith, length-parsed-set F most k ls j.set_bytes held, judge-long)

  encoded-as : (F : Limits) (most : ℕ) (ls : List Literal) → parsed_set F most k ≡ Ok ls → k ≡ encoded_set ls
  encoded-as F most ls held = (parsed-set-sound F most k ls j.set_bytes held).0

  -- the first clash
  pub judged-clash : {r : ℕ} (out : List ℕ) → Some r ≡ clash_at k n 1 4 n → Judged s k out (Verdict.Clash r) out
  judged-clash {r} out e F most p ls program held =
      meant-clash p ls out r
      (finds-clash p ls r
      (clash-found F most k ls j.set_bytes held r (subst (λ (m : ℕ). Some r ≡ clash_at k m 1 4 m) (sym (counted F most ls held)) e)))

  module _ (e : None ≡ clash_at k n 1 4 n) (clauses : List Clause) (out : List ℕ) where
    consistent : (F : Limits) (most : ℕ) (ls : List Literal) → parsed_set F most k ≡ Ok ls → clash_from 1 (set_of ls) ls ≡ none
    consistent F most ls held =
        clash-absent F most k ls j.set_bytes held
        (subst (λ (m : ℕ). None ≡ clash_at k m 1 4 m) (sym (counted F most ls held)) e)

    -- no clash, and the first broken rule
    pub judged-broken : {number : RuleNo} → Clauses s k n (Err number) clauses → Judged s k out (Verdict.Broken number) out
    judged-broken {number} c F most p ls program held =
        meant-broken p ls out number.0
        (finds-broken p ls (consistent F most ls held) number.0 (c p ls program (encoded-as F most ls held) (counted F most ls held)))

    -- neither: what the search over the clauses found
    pub judged-decided : {count : ℕ} {v : Verdict} {end : List ℕ} → Clauses s k n (Ok count) clauses → Decided k n (take count clauses) out v end
        → Judged s k out v end
    judged-decided {count} {v} {end} c d F most p ls program held = go d.model d.first d.answer d.buffer
      where
        set : k ≡ encoded_set ls
        set = encoded-as F most ls held

        counts : length ls ≡ n
        counts = counted F most ls held

        built : Whole p ls clauses count
        built = c p ls program set counts

        first : (f : Option ℕ) → First (Smaller (2 ^ n - 1) (take count clauses)) f → first_subset ls (smaller_model (quotient p (set_of ls)) ls) ≡ found_in ls f
        first f h =
            first-smaller-model ls (ascending-distinct ls (keeps-set-ascending F most ls (parsed-set-sound F most k ls j.set_bytes held).1))
            (quotient p (set_of ls)) f
            (subst (λ (cs : List Clause). First (Smaller (2 ^ length ls - 1) cs) f) built.written
            (subst (λ (m : ℕ). First (Smaller (2 ^ m - 1) (take count clauses)) f) (sym counts) h))

        bytes : (m : ℕ) → picked_record m k n ≡ encoded_set (picked m ls)
        bytes m = subst (λ (i : ℕ). picked_record m k i ≡ encoded_set (picked m ls)) counts (picked-record m k ls (literals-lie F most k ls j.set_bytes held))

        go : (f : Option ℕ) → First (Smaller (2 ^ n - 1) (take count clauses)) f → v ≡ found_verdict k n f → end ≡ write out 0 (found_record k n f)
            → Meant p ls out v end
        go None h a b = meant-yes p ls out v end (finds-answer-set p ls (consistent F most ls held) built.unbroken (first None h)) a b
        go (Some m) h a b =
            meant-smaller p ls out v end (picked m ls) (picked_record m k n)
            (finds-smaller p ls (consistent F most ls held) built.unbroken (picked m ls) (first (Some m) h)) (bytes m) a b
