-- How many constraints and names a program has, where each literal that occurs is one of a form's: at most one constraint and two
-- names for each atom of the form.
-- In order: ascending keys between two numbers; constraints and names by kinds; the atoms that a form takes; a program's.
-- Assumes nothing.
use Prim.Native.Nat.{ℕ, ◌+◌, ◌*◌, ◌≤◌, ◌<◌}
use native.Mathlib.Omega.{arith}
use mathlib.Core.Path.{◌≡◌, refl, sym, subst}
use mathlib.Core.Bool.{Bool, true, false, cond}
use mathlib.Core.List.{List, [], ◌∷◌, map}
use lib.Dec.{T, eqb, eqb→eq}
use lib.ListN.{length, length-append}
use Rattle.literal.specs.declared.Limits.{Limits}
use Rattle.literal.specs.declared.SignedAtom.TheVariants.{Positive, Negative}
use Rattle.literal.specs.declared.Literal.{Literal}
use Rattle.literal.specs.declared.Literal.TheVariants.{Signed, Defeated, Derived, RuleDefeated}
use Rattle.literal.specs.Literal.{kind, tag_field, atom_field, atom_number, ranged, takes}
use Rattle.literal.specs.Order.{key}
use Rattle.literal.proofs.Laws.Literal.{in-range, takes-ranged}
use Rattle.semantics.specs.Set.{LiteralSet, each_of, set_of}
use Rattle.semantics.specs.Rule.{Program}
use Rattle.semantics.proofs.Laws.Tests.{Each, each-intro, each-mem, all-mem, right}
use Rattle.keys.specs.Keys.{key_in}
use Rattle.keys.proofs.Laws.Members.{Above, Ascending, first-in}
use Rattle.keys.proofs.Laws.Sorted.{ascending-sorted}
use Rattle.keys.proofs.Laws.Literals.{keys-sorted, each-sorted}
use Rattle.aspif_meaning.specs.Ground.{GroundRule}
use Rattle.aspif_meaning.specs.Numbering.{occurring, literals, count_of, number_of}
use Rattle.aspif_meaning.specs.Program.{never_both, constraints_of, constraints_from, constraints, names_of, names_with, names}

-- the key of a literal that passes a test lies above one number, and no higher than another
record Between (f : Literal → Bool) (low high : ℕ) (l : Literal) : Type 0 where
  above : T (f l) → low < key l
  most : T (f l) → key l ≤ high

-- the literals behind another in an ascending list are above it
between-behind : (f : Literal → Bool) (low high k : ℕ) (ls : List Literal) → Above k (map key ls) → Each (Between f low high) ls
    → Each (Between f k high) ls
between-behind f low high k [] up h = tt
between-behind f low high k (l ∷ ls) up h =
    let here : Between f k high l = record { above = λ t. up (key l) (first-in (key l) (map key ls)); most = h.0.most } in
    (here, between-behind f low high k ls (λ m t. up m (right (eqb m (key l)) (key_in m (map key ls)) t)) h.1)

-- those of an ascending list that pass are no more than the numbers there
count-between : (f : Literal → Bool) (high : ℕ) (ls : List Literal) (low : ℕ) → low ≤ high → Ascending (map key ls) → Each (Between f low high) ls
    → low + count_of f ls ≤ high
count-between f high [] low le a h = omega arith
count-between f high (l ∷ ls) low le a h =
    go (f l) refl (count-between f high ls low le a.1 h.1)
    (λ n. count-between f high ls (key l) n a.1 (between-behind f low high (key l) ls a.0 h.1))
  where
    go : (b : Bool) → f l ≡ b → low + count_of f ls ≤ high → (key l ≤ high → key l + count_of f ls ≤ high) → low + (cond b 1 0 + count_of f ls) ≤ high
    go true e same next = let t : T (f l) = subst T (sym e) tt in omega (arith, h.0.above t, next (h.0.most t))
    go false e same next = omega arith

-- the keys of a program's literals ascend
pub keys-ascend : (p : Program) → Ascending (map key (literals p))
unfolding literals
keys-ascend p = subst Ascending (sym (keys-sorted (occurring p))) (ascending-sorted (map key (occurring p)))

-- a literal's kind is k: 0 that of atoms, 1 that of negated ones
of_kind : ℕ → Literal → Bool
of_kind k l = eqb (kind l) k

module _ (ν : Literal → ℕ) where
  -- a constraint comes from an atom
  constraint-few : (s : LiteralSet) (l : Literal) → length (constraints_of ν s l) ≤ cond (of_kind 0 l) 1 0
  unfolding constraints_of of_kind kind
  constraint-few s (Signed (Positive a)) = go (s (Signed (Negative a)))
    where
      go : (b : Bool) → length {A = GroundRule} (elim b [ true ↦ never_both (ν (Signed (Positive a))) (ν (Signed (Negative a))) ∷ [] | false ↦ [] ]) ≤ 1
      go true = omega arith
      go false = omega arith
  constraint-few s (Signed (Negative a)) = omega arith
  constraint-few s (Defeated t (Positive a)) = omega arith
  constraint-few s (Defeated t (Negative a)) = omega arith
  constraint-few s (Derived t (Positive a)) = omega arith
  constraint-few s (Derived t (Negative a)) = omega arith
  constraint-few s (RuleDefeated n) = omega arith

  constraints-atoms : (s : LiteralSet) (ls : List Literal) → length (constraints_from ν s ls) ≤ count_of (of_kind 0) ls
  unfolding constraints_from
  constraints-atoms s [] = omega arith
  constraints-atoms s (l ∷ ls) =
      omega (arith, length-append (constraints_of ν s l) (constraints_from ν s ls), constraint-few s l, constraints-atoms s ls)

  -- a name comes from an atom or a negated one
  name-few : (l : Literal) → length (names_of ν l) ≤ cond (of_kind 0 l) 1 0 + cond (of_kind 1 l) 1 0
  unfolding names_of of_kind kind
  name-few (Signed (Positive a)) = omega arith
  name-few (Signed (Negative a)) = omega arith
  name-few (Defeated t a) = omega arith
  name-few (Derived t a) = omega arith
  name-few (RuleDefeated n) = omega arith

  names-signed : (ls : List Literal) → length (names_with ν ls) ≤ count_of (of_kind 0) ls + count_of (of_kind 1) ls
  unfolding names_with
  names-signed [] = omega arith
  names-signed (l ∷ ls) = omega (arith, length-append (names_of ν l) (names_with ν ls), name-few l, names-signed ls)

-- an atom, or a negated one, that a form takes: no tag, and a number of the form's
record Numbered (F : Limits) (l : Literal) : Type 0 where
  untagged : tag_field l ≡ 0
  from : 1 ≤ atom_field l
  most : atom_field l ≤ F.atoms

module _ (F : Limits) where
  signed-numbered : (l : Literal) → T (ranged F l) → kind l ≤ 1 → Numbered F l
  unfolding kind tag_field atom_field ranged
  signed-numbered (Signed a) h k = let w = in-range F.atoms (atom_number a) h in record { untagged = refl; from = w.0; most = w.1 }
  signed-numbered (Defeated t (Positive a)) h k = absurd (omega arith)
  signed-numbered (Defeated t (Negative a)) h k = absurd (omega arith)
  signed-numbered (Derived t (Positive a)) h k = absurd (omega arith)
  signed-numbered (Derived t (Negative a)) h k = absurd (omega arith)
  signed-numbered (RuleDefeated n) h k = absurd (omega arith)

  -- the keys of such literals of one kind lie among as many numbers as the form has atoms
  signed-between : (k : ℕ) → k ≤ 1 → (l : Literal) → T (takes F l) → Between (of_kind k) (4294967296 * k) (4294967296 * k + F.atoms) l
  unfolding of_kind key
  signed-between k small l h =
      record {
        above = λ t. let w = numbered t in omega (arith, eqb→eq (kind l) k t, w.untagged, w.from);
        most = λ t. let w = numbered t in omega (arith, eqb→eq (kind l) k t, w.untagged, w.most);
      }
    where
      numbered : T (eqb (kind l) k) → Numbered F l
      numbered t = signed-numbered l (takes-ranged F l h) (omega (arith, eqb→eq (kind l) k t))

  module _ (p : Program) (taken : T (each_of (takes F) (occurring p))) where
    -- the literals of a program are taken, as those that occur are
    pub literals-taken : Each (λ l. T (takes F l)) (literals p)
    unfolding literals
    literals-taken = each-sorted (λ l. T (takes F l)) (occurring p) (each-intro (λ l. T (takes F l)) (occurring p) (λ l m. all-mem (takes F) taken m))

    -- those of a kind below 2 are no more than the form's atoms
    count-few : (k : ℕ) → k ≤ 1 → count_of (of_kind k) (literals p) ≤ F.atoms
    count-few k small =
        let low = 4294967296 * k in
        omega (
          arith,
          count-between (of_kind k) (low + F.atoms) (literals p) low (omega arith) (keys-ascend p)
              (each-intro (Between (of_kind k) low (low + F.atoms)) (literals p)
              (λ l m. signed-between k small l (each-mem (λ x. T (takes F x)) literals-taken m))),
        )

    -- a constraint for each atom at most
    pub constraints-few : (ν : Literal → ℕ) → length (constraints ν (literals p)) ≤ F.atoms
    unfolding constraints
    constraints-few ν = omega (arith, constraints-atoms ν (set_of (literals p)) (literals p), count-few 0 (omega arith))

    -- and two names
    pub names-few : length (names p) ≤ 2 * F.atoms
    unfolding names
    names-few = omega (arith, names-signed (number_of p) (literals p), count-few 0 (omega arith), count-few 1 (omega arith))
