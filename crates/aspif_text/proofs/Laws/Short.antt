-- How long the text of a program within a form's limits is: at most twice the program's bytes, 58 bytes for each atom of the form, and 12.
-- In order: a program's bytes by its rules and literals; the atoms of names; what the text's bound asks, from the limits; the text.
-- Assumes nothing.
use Prim.Native.Nat.{ℕ, ◌+◌, ◌*◌, ◌≤◌, ◌<◌}
use native.Mathlib.Omega.{arith}
use mathlib.Core.Path.{◌≡◌, refl}
use mathlib.Core.List.{List, [], ◌∷◌}
use lib.Dec.{T, leb, leb→le}
use lib.ListN.{length, length-append, length-map}
use Rattle.literal.specs.declared.Limits.{Limits}
use Rattle.literal.specs.declared.Literal.{Literal}
use Rattle.literal.specs.declared.Literal.TheVariants.{Signed, Defeated, Derived, RuleDefeated}
use Rattle.literal.specs.Literal.{atom_number, ranged, takes}
use Rattle.literal.proofs.Laws.Literal.{takes-ranged}
use Rattle.semantics.specs.Set.{each_of}
use Rattle.semantics.specs.Rule.{Rule, strict, defeasible, Program, head, positive, naf}
use Rattle.semantics.specs.Translation.{record_length}
use Rattle.semantics.specs.Form.{keeps_rule, keeps_rules}
use Rattle.semantics.proofs.Laws.Tests.{Each, each-intro, each_append, all-mem, second}
use Rattle.semantics.proofs.Laws.Form.{keeps-each, kept}
use Rattle.semantics.proofs.Laws.Length.{records_length, program_length}
use Rattle.aspif_meaning.specs.Numbering.{rule_literals, occurring, literals, number_of}
use Rattle.aspif_meaning.specs.Program.{Name, names_of, names_with, names}
use Rattle.aspif_meaning.proofs.Laws.Occurring.{occurring-taken}
use Rattle.aspif_meaning.proofs.Laws.Numbering.{number-most}
use Rattle.aspif_meaning.proofs.Laws.Few.{literals-taken, constraints-few, names-few}
use Rattle.aspif_text.specs.Text.{aspif_text}
use Rattle.aspif_text.proofs.Laws.Bound.{FewIn, Bounded, text-bound}

-- a rule's record has seven bytes, and five for each of its literals
record-literals : (r : Rule) → record_length r ≡ 7 + 5 * length (rule_literals r)
unfolding record_length rule_literals head positive naf
record-literals (strict h b c) = simp length-append (omega arith)
record-literals (defeasible t h b c) = simp length-append (omega (arith, length-map h Signed))

pub records-literals : (p : Program) → records_length p ≡ 7 * length p + 5 * length (occurring p)
unfolding records_length occurring
records-literals [] = refl
records-literals (r ∷ p) = omega (arith, record-literals r, records-literals p, length-append (rule_literals r) (occurring p))

module _ (F : Limits) where
  -- the atoms of names are those of literals
  name-atom : F.atoms < 10000 → (ν : Literal → ℕ) (l : Literal) → T (takes F l) → Each (λ (x : Name). atom_number x.atom < 10000) (names_of ν l)
  unfolding names_of ranged
  name-atom four ν (Signed a) h = (omega (arith, leb→le (atom_number a) F.atoms (second (leb 1 (atom_number a)) _ (takes-ranged F (Signed a) h))), tt)
  name-atom four ν (Defeated t a) h = tt
  name-atom four ν (Derived t a) h = tt
  name-atom four ν (RuleDefeated n) h = tt

  name-atoms : F.atoms < 10000 → (ν : Literal → ℕ) (ls : List Literal) → Each (λ l. T (takes F l)) ls
      → Each (λ (x : Name). atom_number x.atom < 10000) (names_with ν ls)
  unfolding names_with
  name-atoms four ν [] h = tt
  name-atoms four ν (l ∷ ls) h =
      each_append (λ (x : Name). atom_number x.atom < 10000) (names_of ν l) (names_with ν ls) (name-atom four ν l h.0) (name-atoms four ν ls h.1)

  module _ (p : Program) (keeps : T (keeps_rules F p)) (heads : F.heads < 100) (bodies : F.positives + F.nafs < 100) (four : F.atoms < 10000)
      (short : program_length p ≤ 499990) where
    -- each literal that occurs is one of the form's
    taken : T (each_of (takes F) (occurring p))
    taken = occurring-taken F p (keeps-each F p keeps)

    -- the program keeps what its text's bound asks
    pub bounded : Bounded p
    unfolding program_length names
    bounded =
        record {
          numbers = λ l. omega (arith, number-most p l, records-literals p, short);
          rules = each-intro FewIn p (λ r m. few r (all-mem (keeps_rule F) (keeps-each F p keeps) m));
          atoms = name-atoms four (number_of p) (literals p) (literals-taken F p taken);
        }
      where
        few : (r : Rule) → T (keeps_rule F r) → FewIn r
        few r k =
            let w = kept F r k in
            record { heads = omega (arith, w.heads, heads); bodies = omega (arith, w.positives, w.nafs, bodies) }

    -- its text: two lines, its rules, a constraint and two names for each atom at most
    pub text-short : length (aspif_text p) ≤ 2 * program_length p + 58 * F.atoms + 12
    unfolding program_length
    text-short = omega (arith, text-bound p bounded, records-literals p, constraints-few F p taken (number_of p), names-few F p taken)
