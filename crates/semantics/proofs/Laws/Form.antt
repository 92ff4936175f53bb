-- Laws of forms: what a program within a form's limits is made of, and which literals extensions of its sets hold.
-- In order: a program within the limits, and the parts of a rule within them; a form without marks; where a form covers another.
-- Assumes nothing.
use Prim.Native.Nat.{ℕ, ◌≤◌}
use native.Mathlib.Omega.{arith}
use mathlib.Core.Bool.{◌&&◌}
use mathlib.Core.List.{List}
use lib.Dec.{T, leb, leb→le, le→leb}
use lib.ListN.{length}
use Rattle.literal.specs.declared.Limits.{Limits}
use Rattle.literal.specs.declared.SignedAtom.{SignedAtom}
use Rattle.literal.specs.declared.SignedAtom.TheVariants.{Positive, Negative}
use Rattle.literal.specs.declared.Literal.{Literal}
use Rattle.literal.specs.declared.Literal.TheVariants.{Signed, Defeated, Derived, RuleDefeated}
use Rattle.literal.specs.declared.Tag.{Tag}
use Rattle.literal.specs.Literal.{most_kind, atom_number, kind, in_range, ranged, takes}
use Rattle.literal.proofs.Laws.Literal.{kind-most, takes-kind, takes-ranged, takes-both}
use Rattle.semantics.specs.Set.{LiteralSet, each_of}
use Rattle.semantics.specs.Rule.{Rule, strict, defeasible, Program, head, positive, naf}
use Rattle.semantics.specs.Translation.{rule_defeated}
use Rattle.semantics.specs.Extension.{defeated_rule, extension, source_kind}
use Rattle.semantics.specs.Form.{SetOf, keeps_counts, keeps_literals, keeps_tag, keeps_rule, keeps_rules, source_rule, SourceSet}
use Rattle.semantics.proofs.Laws.Tests.{both, first, second, all-mem, all-intro, along}
use Rattle.semantics.proofs.Laws.Wider.{Wider, pair-wider, takes-wider}
use Rattle.semantics.proofs.Laws.Position.{At, at_mem, at_from, Numbered}
use Rattle.semantics.proofs.Laws.Extension.{extension-agree, agree-signed, agree-defeated, extension-derived, extension-defeated}

-- the rules of a program within the limits
pub keeps-count : (F : Limits) (p : Program) → T (keeps_rules F p) → length p ≤ F.rules
unfolding keeps_rules
keeps-count F p k = leb→le (length p) F.rules (first (leb (length p) F.rules) (each_of (keeps_rule F) p) k)

pub keeps-each : (F : Limits) (p : Program) → T (keeps_rules F p) → T (each_of (keeps_rule F) p)
unfolding keeps_rules
keeps-each F p k = second (leb (length p) F.rules) (each_of (keeps_rule F) p) k

pub keeps-rules : (F : Limits) (p : Program) → length p ≤ F.rules → T (each_of (keeps_rule F) p) → T (keeps_rules F p)
unfolding keeps_rules
keeps-rules F p count each = both (leb (length p) F.rules) (each_of (keeps_rule F) p) (le→leb (length p) F.rules count) each

-- a defeasible rule within the limits is of a form that has them, with a tag of the form's and an option
pub record KeptTag (F : Limits) (t : Tag) (h : List SignedAtom) : Type 0 where
  pub form : T F.defeasible
  pub range : T (in_range F.tags t.0)
  pub some : 1 ≤ length h

abbrev pub TagKept : Limits → Rule → Type 0
TagKept F (strict h b c) = Unit
TagKept F (defeasible t h b c) = KeptTag F t h

-- the parts of a rule within the limits
pub record Kept (F : Limits) (r : Rule) : Type 0 where
  pub tag : TagKept F r
  pub counts : T (keeps_counts F (length (head r)) (length (positive r)) (length (naf r)))
  pub heads : length (head r) ≤ F.heads
  pub positives : length (positive r) ≤ F.positives
  pub nafs : length (naf r) ≤ F.nafs
  pub head-taken : T (each_of (takes F) (head r))
  pub positive-taken : T (each_of (takes F) (positive r))
  pub naf-taken : T (each_of (takes F) (naf r))

tag-kept : (F : Limits) (r : Rule) → T (keeps_tag F r) → TagKept F r
unfolding keeps_tag
tag-kept F (strict h b c) k = tt
tag-kept F (defeasible t h b c) k =
    let ranges = second F.defeasible _ k in
    record {
      form = first F.defeasible _ k;
      range = first (in_range F.tags t.0) _ ranges;
      some = leb→le 1 (length h) (second (in_range F.tags t.0) _ ranges);
    }

pub kept : (F : Limits) (r : Rule) → T (keeps_rule F r) → Kept F r
unfolding keeps_rule keeps_counts keeps_literals
kept F r k =
    let rest = second (keeps_tag F r) _ k in
    let count = keeps_counts F (length (head r)) (length (positive r)) (length (naf r)) in
    let counts = first count _ rest in
    let bodies = second (leb (length (head r)) F.heads) _ counts in
    let taken = second count _ rest in
    let behind = second (each_of (takes F) (head r)) _ taken in
    record {
      tag = tag-kept F r (first (keeps_tag F r) _ k);
      counts = counts;
      heads = leb→le (length (head r)) F.heads (first (leb (length (head r)) F.heads) _ counts);
      positives = leb→le (length (positive r)) F.positives (first (leb (length (positive r)) F.positives) _ bodies);
      nafs = leb→le (length (naf r)) F.nafs (second (leb (length (positive r)) F.positives) _ bodies);
      head-taken = first (each_of (takes F) (head r)) _ taken;
      positive-taken = first (each_of (takes F) (positive r)) _ behind;
      naf-taken = second (each_of (takes F) (positive r)) _ behind;
    }

-- a strict rule is within the limits by its counts and its literals
pub strict-keeps : (F : Limits) (h b c : List Literal) → length h ≤ F.heads → length b ≤ F.positives → length c ≤ F.nafs
    → T (each_of (takes F) h) → T (each_of (takes F) b) → T (each_of (takes F) c) → T (keeps_rule F (strict h b c))
unfolding keeps_rule keeps_tag keeps_counts keeps_literals head positive naf
strict-keeps F h b c lh lb lc th tb tc =
    both (leb (length h) F.heads && (leb (length b) F.positives && leb (length c) F.nafs)) _
    (both (leb (length h) F.heads) _ (le→leb (length h) F.heads lh)
    (both (leb (length b) F.positives) _ (le→leb (length b) F.positives lb) (le→leb (length c) F.nafs lc)))
    (both (each_of (takes F) h) _ th (both (each_of (takes F) b) (each_of (takes F) c) tb tc))

-- a form whose largest kind is 3 takes literals of source kinds alone
pub takes-source : (F : Limits) → most_kind F.kinds ≤ 3 → (l : Literal) → T (takes F l) → T (source_kind l)
unfolding source_kind kind
takes-source F s (Signed a) y = tt
takes-source F s (Defeated t a) y = tt
takes-source F s (Derived t (Positive a)) y = absurd (omega (arith, takes-kind F (Derived t (Positive a)) y))
takes-source F s (Derived t (Negative a)) y = absurd (omega (arith, takes-kind F (Derived t (Negative a)) y))
takes-source F s (RuleDefeated n) y = absurd (omega (arith, takes-kind F (RuleDefeated n) y))

pub source-rules : (F : Limits) → most_kind F.kinds ≤ 3 → (p : Program) → T (each_of (keeps_rule F) p) → T (each_of source_rule p)
unfolding source_rule
source-rules F s p k = all-intro source_rule p (λ r m. go r (all-mem (keeps_rule F) k m))
  where
    over : (ls : List Literal) → T (each_of (takes F) ls) → T (each_of source_kind ls)
    over ls t = all-intro source_kind ls (λ l m. takes-source F s l (all-mem (takes F) t m))

    go : (r : Rule) → T (keeps_rule F r) → T (source_rule r)
    go r t =
        let w = kept F r t in
        both (each_of source_kind (head r)) (each_of source_kind (positive r) && each_of source_kind (naf r)) (over (head r) w.head-taken)
        (both (each_of source_kind (positive r)) (each_of source_kind (naf r)) (over (positive r) w.positive-taken) (over (naf r) w.naf-taken))

-- form G takes what F takes, the marks of F's tags and atoms, and the numbers of F's rules
pub record Covers (F G : Limits) : Type 0 where
  pub wider : Wider F G
  pub kinds : 6 ≤ most_kind G.kinds
  pub numbers : F.rules ≤ G.numbers

module _ (F G : Limits) (covers : Covers F G) where
  -- a literal in G's ranges
  covered : (l : Literal) → T (ranged G l) → T (takes G l)
  covered l y = takes-both G l (omega (arith, kind-most l, covers.kinds)) y

  -- a tag of F's with an atom of F's
  marks : (t : Tag) (a : SignedAtom) → T (in_range F.tags t.0) → T (takes F (Signed a)) → T (in_range G.tags t.0 && in_range G.atoms (atom_number a))
  unfolding ranged
  marks t a y z = pair-wider F G covers.wider t a y (takes-ranged F (Signed a) z)

  -- the mark of an option of a rule within F's limits
  pub covers-derived : (t : Tag) (a : SignedAtom) → T (in_range F.tags t.0) → T (takes F (Signed a)) → T (takes G (Derived t a))
  unfolding ranged
  covers-derived t a y z = covered (Derived t a) (marks t a y z)

  -- the defeat mark of such an option
  pub covers-mark : (t : Tag) (a : SignedAtom) → T (in_range F.tags t.0) → T (takes F (Signed a)) → T (takes G (Defeated t a))
  unfolding ranged
  covers-mark t a y z = covered (Defeated t a) (marks t a y z)

  -- a number of a rule of a program within F's limits
  pub covers-number : (n : ℕ) → 1 ≤ n → n ≤ F.rules → T (takes G (rule_defeated n))
  unfolding ranged
  covers-number n h k =
      covered (rule_defeated n)
      (both (leb 1 n) (leb n G.numbers) (le→leb 1 n h) (le→leb n G.numbers (omega (arith, covers.numbers))))

  -- the extension of a set of F's literals is a set of G's
  pub extension-within : (p : Program) → T (each_of (keeps_rule F) p) → Numbered F.rules 1 p
      → (s : LiteralSet) → SourceSet s → SetOf F s → SetOf G (extension p s)
  unfolding defeated_rule
  extension-within p k numbered s source within = go
    where
      number : (n : ℕ) (r : Rule) → At n r 1 p → T (defeated_rule s r) → T (takes G (rule_defeated n))
      number n (strict h b c) at d = absurd d
      number n (defeasible t h b c) at d = covers-number n (at_from at) (numbered n t h b c at)

      go : (l : Literal) → T (extension p s l) → T (takes G l)
      go (Signed a) y = takes-wider F G covers.wider (Signed a) (within (Signed a) (along (agree-signed (extension-agree p s) a) y))
      go (Defeated t a) y = takes-wider F G covers.wider (Defeated t a) (within (Defeated t a) (along (agree-defeated (extension-agree p s) t a) y))
      go (Derived t a) y =
          let d = extension-derived p s source t a y in
          let o = d.offer in
          let q = all-mem (keeps_rule F) k (at_mem o.at) in
          covers-derived t a (kept F (defeasible t o.options o.body o.nafs) q).tag.range (within (Signed a) d.holds)
      go (RuleDefeated n) y =
          let w = extension-defeated p s source n y in
          number n.0 w.0 w.1 w.2
