-- A form that takes every literal that another takes.
-- In order: ranges; two forms; literals; the source and the plain form. Assumes nothing.
use Prim.Native.Nat.{ℕ, ◌≤◌}
use native.Mathlib.Omega.{arith}
use mathlib.Core.Bool.{◌&&◌}
use mathlib.Core.List.{List}
use lib.Dec.{T, leb, leb→le, le→leb}
use Rattle.literal.specs.declared.Limits.{Limits}
use Rattle.literal.specs.declared.Tag.{Tag}
use Rattle.literal.specs.declared.SignedAtom.{SignedAtom}
use Rattle.literal.specs.declared.Literal.{Literal}
use Rattle.literal.specs.declared.Literal.TheVariants.{Signed, Defeated, Derived, RuleDefeated}
use Rattle.literal.specs.Literal.{most_kind, atom_number, kind, in_range, ranged, takes}
use Rattle.literal.specs.Limits.{source, plain}
use Rattle.literal.proofs.Laws.Literal.{takes-kind, takes-ranged, takes-both}
use Rattle.semantics.specs.Set.{each_of}
use Rattle.semantics.proofs.Laws.Tests.{both, first, second, all-mem, all-intro}

-- a wider range holds what a range holds
in-range-mono : (m k n : ℕ) → m ≤ k → T (in_range m n) → T (in_range k n)
in-range-mono m k n h y =
    both (leb 1 n) (leb n k) (first (leb 1 n) (leb n m) y)
    (le→leb n k (omega (arith, leb→le n m (second (leb 1 n) (leb n m) y))))

-- each figure of F's literals is within G's, that of rule numbers where F's kinds have them
pub record Wider (F G : Limits) : Type 0 where
  pub kinds : most_kind F.kinds ≤ most_kind G.kinds
  pub atoms : F.atoms ≤ G.atoms
  pub tags : F.tags ≤ G.tags
  pub numbers : 6 ≤ most_kind F.kinds → F.numbers ≤ G.numbers

module _ (F G : Limits) (w : Wider F G) where
  -- a tag with an atom
  pub pair-wider : (t : Tag) (a : SignedAtom) → T (in_range F.tags t.0) → T (in_range F.atoms (atom_number a))
      → T (in_range G.tags t.0 && in_range G.atoms (atom_number a))
  pair-wider t a y z =
      both (in_range G.tags t.0) (in_range G.atoms (atom_number a))
      (in-range-mono F.tags G.tags t.0 w.tags y) (in-range-mono F.atoms G.atoms (atom_number a) w.atoms z)

  mark-wider : (t : Tag) (a : SignedAtom) → T (in_range F.tags t.0 && in_range F.atoms (atom_number a))
      → T (in_range G.tags t.0 && in_range G.atoms (atom_number a))
  mark-wider t a y =
      pair-wider t a (first (in_range F.tags t.0) (in_range F.atoms (atom_number a)) y)
      (second (in_range F.tags t.0) (in_range F.atoms (atom_number a)) y)

  ranged-wider : (l : Literal) → kind l ≤ most_kind F.kinds → T (ranged F l) → T (ranged G l)
  unfolding ranged kind
  ranged-wider (Signed a) k y = in-range-mono F.atoms G.atoms (atom_number a) w.atoms y
  ranged-wider (Defeated t a) k y = mark-wider t a y
  ranged-wider (Derived t a) k y = mark-wider t a y
  ranged-wider (RuleDefeated n) k y = in-range-mono F.numbers G.numbers n.0 (w.numbers k) y

  -- G takes what F takes
  pub takes-wider : (l : Literal) → T (takes F l) → T (takes G l)
  takes-wider l y = let k = takes-kind F l y in takes-both G l (omega (arith, k, w.kinds)) (ranged-wider l k (takes-ranged F l y))

  pub all-wider : (ls : List Literal) → T (each_of (takes F) ls) → T (each_of (takes G) ls)
  all-wider ls y = all-intro (takes G) ls (λ l m. takes-wider l (all-mem (takes F) y m))

-- a form takes what it takes, and the plain form what a source takes
pub wider-same : (F : Limits) → Wider F F
wider-same F = record { kinds = omega arith; atoms = omega arith; tags = omega arith; numbers = λ k. omega arith }

pub source-wider : Wider source plain
unfolding source plain most_kind
source-wider = record { kinds = omega arith; atoms = omega arith; tags = omega arith; numbers = λ k. omega arith }
