-- Laws of the pass that builds clauses: what is written of the rules that are gone, for each program and set that the slices hold.
-- In order: numbers and counts, whatever the set; what is written; a rule more; what is built: a broken rule, the whole program.
-- Assumes nothing.
use Prim.Native.Nat.{ℕ, ◌+◌, ◌≤◌, ◌<◌}
use native.Mathlib.Omega.{arith}
use mathlib.Core.Path.{◌≡◌, refl, sym, ◌∙◌, ap, subst}
use mathlib.Core.List.{List, [], ◌∷◌, ◌++◌}
use mathlib.Core.Option.{none, some}
use lib.ListN.{length, drop, take, set, length-append}
use Rattle.std.specs.Prelude.{Option, Some, None, Ok, Err}
use Rattle.buffer.specs.Bytes.{Bytes}
use Rattle.literal.specs.declared.Literal.{Literal}
use Rattle.semantics.specs.Set.{set_of}
use Rattle.semantics.specs.Rule.{Program}
use Rattle.semantics.specs.Meaning.{remainder, quotient}
use Rattle.semantics.specs.Verdict.{broken_from}
use Rattle.record.specs.Layout.{encoded_literals}
use Rattle.record_walk.specs.Code.{Any, Holds, record_size}
use Rattle.record_walk.specs.Records.{Front, Over}
use Rattle.record_walk.proofs.Laws.Records.{Next, Passing, passed-rule, passing-next, passed-end}
use Rattle.set.specs.Layout.{encoded_set}
use Rattle.check_force.specs.declared.Clause.{Clause}
use Rattle.check_force.specs.Code.{clauses_of}
use Rattle.check_clauses.specs.Code.{Clausable, clause_at, Clauses}
use Rattle.check_clauses.proofs.Laws.Literals.{clause-rule}
use Rattle.check_clauses.proofs.Laws.Told.{Told, told, told-holds, told-broken}
use Rattle.check_clauses.proofs.Laws.Step.{next-holds, next-broken, next-without, next-with}

-- how many rules are gone, and that there are no more clauses
pub record Counted (number count : ℕ) (gone : Program) : Type 0 where
  pub numbered : number ≡ length gone
  pub few : count ≤ length gone

module _ {t : List ℕ} {p gone : Program} {number count : ℕ} (m : Next p gone t) (c : Counted number count gone) where
  pub counted_next : Counted (number + 1) (count + 1) (gone ++ m.the-rule ∷ [])
  counted_next =
      let long = length-append gone (m.the-rule ∷ []) in record { numbered = omega (arith, c.numbered, long); few = omega (arith, c.few, long) }

  pub counted_past : Counted (number + 1) count (gone ++ m.the-rule ∷ [])
  counted_past =
      let long = length-append gone (m.the-rule ∷ []) in record { numbered = omega (arith, c.numbered, long); few = omega (arith, c.few, long) }

-- where the loop is: the record of the next rule is given, whose clause has room, and whose number is not the last
module _ {room : ℕ} {s rest t next : List ℕ} (held : Holds (Clausable room) s) {number count : ℕ} (pass : Passing Any s rest (Counted number count)) (front : Front rest t next) where
  pub record Ahead : Type 0 where
    pub whole : record_size t ≤ length t
    pub least : 7 ≤ length t
    pub roomy : count < room
    pub numbered : number + 1 < 65535
    pub counted : count ≤ number

  pub ahead : Ahead
  ahead =
      let here = pass (record { program = held.program; bytes = held.bytes; asked = tt }) in
      let m = passed-rule here front in
      let few = ap length m.split ∙ length-append here.gone (m.the-rule ∷ m.behind) in
      record {
        whole = m.whole;
        least = omega (arith, m.whole);
        roomy = omega (arith, few, here.made.few, held.asked.clauses);
        numbered = omega (arith, few, here.made.numbered, held.asked.numbered);
        counted = omega (arith, here.made.numbered, here.made.few);
      }

-- what is written of them, where the set is that of a list: none of them is broken
pub record Written (ls : List Literal) (clauses : List Clause) (number count : ℕ) (gone : Program) : Type 0 where
  pub numbered : number ≡ length gone
  pub unbroken : broken_from 1 gone (set_of ls) ≡ none
  pub front : take count clauses ≡ clauses_of ls (quotient gone (set_of ls))

pub written_start : (ls : List Literal) (clauses : List Clause) (number : ℕ) → number ≡ 0 → Written ls clauses number 0 []
unfolding broken_from quotient clauses_of
written_start ls clauses number e = record { numbered = e; unbroken = refl; front = refl }

-- the literals of a set lie behind its count
set-lies : (k : List ℕ) (ls : List Literal) → k ≡ encoded_set ls → drop 4 k ≡ encoded_literals ls
unfolding encoded_set
set-lies k ls e = ap (drop 4) e

-- the invariant, for each set that the slice holds
abbrev pub Building : List ℕ → List ℕ → ℕ → List Clause → List ℕ → ℕ → ℕ → Type 0
Building s k n clauses rest number count =
    (ls : List Literal) → k ≡ encoded_set ls → length ls ≡ n → Passing Any s rest (Written ls clauses number count)

module _ {s k rest : List ℕ} {n : ℕ} (bytes : Bytes k) {clauses : List Clause} {number count : ℕ} (pass : Building s k n clauses rest number count) where
  -- where no record is left, the clauses of the whole program are written
  pub built-whole : Passing Any s rest (Counted number count) → Over rest → Clauses s k n (Ok count) clauses
  built-whole counted over p ls q held size =
      let w = passed-end (pass ls held size (record { program = p; bytes = q; asked = tt })) over in
      record { unbroken = w.unbroken; few = (passed-end (counted (record { program = p; bytes = q; asked = tt })) over).few; written = w.front }

  -- the clause of the record that is given
  module _ {t next : List ℕ} (front : Front rest t next) (chars : Bytes t) where
    tells : (r : Option Clause) → r ≡ clause_at t k n → (ls : List Literal) → k ≡ encoded_set ls → length ls ≡ n → {p gone : Program} (m : Next p gone t)
        → Told ls (remainder m.the-rule (set_of ls)) r
    tells r e ls held size m =
        subst (Told ls (remainder m.the-rule (set_of ls)))
        (sym (e ∙ ap (clause_at t k) (sym size) ∙ clause-rule t k ls chars bytes (set-lies k ls held) m.the-rule m.starts))
        (told ls (remainder m.the-rule (set_of ls)))

    -- its rule is broken
    pub built-broken : (c : Clause) → Some c ≡ clause_at t k n → c.head ≡ 0 → (i : ℕ) → i ≡ number → (rest : List Clause)
        → Clauses s k n (Err (record { 0 = i + 1 })) rest
    built-broken c e b i same rest p ls q held size =
        let a = pass ls held size (record { program = p; bytes = q; asked = tt }) in
        let m = passed-rule a front in
        ap (λ (x : Program). broken_from 1 x (set_of ls)) m.split
        ∙ next-broken ls a.gone m.the-rule a.made.unbroken
        (told-broken ls (remainder m.the-rule (set_of ls)) c (tells (Some c) e ls held size m) b) m.behind
        ∙ ap some (omega (arith, a.made.numbered))

    -- or not, and its clause is stored
    pub built-next : (c : Clause) → Some c ≡ clause_at t k n → (c.head ≡ 0 → ⊥) → count < length clauses
        → Building s k n (set clauses count c) next (number + 1) (count + 1)
    built-next c e b i ls held long =
        passing-next (pass ls held long) front (Written ls (set clauses count c) (number + 1) (count + 1))
        (λ w a m.
        let clause = tells (Some c) e ls held long m in
        record {
          numbered = omega (arith, a.made.numbered, length-append a.gone (m.the-rule ∷ []));
          unbroken = next-holds ls a.gone m.the-rule a.made.unbroken (told-holds ls (remainder m.the-rule (set_of ls)) c clause b);
          front = next-with ls a.gone m.the-rule clauses count a.made.front c clause i;
        })

    -- or it has none
    pub built-past : None ≡ clause_at t k n → Building s k n clauses next (number + 1) count
    built-past e ls held long =
        passing-next (pass ls held long) front (Written ls clauses (number + 1) count)
        (λ w a m.
        let clause = tells None e ls held long m in
        record {
          numbered = omega (arith, a.made.numbered, length-append a.gone (m.the-rule ∷ []));
          unbroken = next-holds ls a.gone m.the-rule a.made.unbroken clause.holds-so;
          front = next-without ls a.gone m.the-rule clauses count a.made.front clause;
        })
