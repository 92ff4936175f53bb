-- The one-to-one match by numbers, over any numbering that is one to one on the literals that occur.
-- A set of literals and a set of numbers agree where each literal that occurs is in the one as its number is in the other. Then each
-- rule asks the same of both, and so do models and answer sets; the constraints are what an interpretation is.
-- In order: agreement; a rule, and a program, in sets that agree; the numbers of a set, and the literals of numbers; the match; this
-- numbering.
-- Assumes nothing.
use Prim.Native.Nat.{ℕ}
use mathlib.Core.Path.{◌≡◌, refl, sym, ◌∙◌, ap₂, subst}
use mathlib.Core.Bool.{Bool, true, false, cond, not, ◌&&◌, ◌||◌}
use mathlib.Core.List.{List, map, Memᴰ}
use mathlib.Core.Option.{none, some}
use lib.Dec.{T, eqb, eqb→eq, eqb_refl}
use Rattle.literal.specs.declared.SignedAtom.TheVariants.{Positive, Negative}
use Rattle.literal.specs.declared.Literal.{Literal}
use Rattle.literal.specs.declared.Literal.TheVariants.{Signed}
use Rattle.literal.proofs.Laws.Literal.{Fits}
use Rattle.semantics.specs.Set.{LiteralSet, some_of, each_of, Subset, set_of}
use Rattle.semantics.specs.Rule.{Rule, strict, defeasible, Program, head, positive, naf}
use Rattle.semantics.specs.Meaning.{remainder, quotient, holds, satisfied, models, Interpretation, AnswerSet}
use Rattle.semantics.proofs.Laws.Tests.{Each, both, first, second, along, same_test, any-mem, any_found, all-mem, any-map, all_map, any-agree, all-agree, all_append}
use Rattle.semantics.proofs.Laws.Set.{set-ext, set-of-mem, mem-set-of}
use Rattle.semantics.proofs.Laws.Meaning.{models-quotient, answer-set-contains, answer-set-intro}
use Rattle.aspif_meaning.specs.Ground.{GroundProgram, NumberSet, reduct, is_model, GroundAnswerSet}
use Rattle.aspif_meaning.specs.Numbering.{occurring, literals, number_of}
use Rattle.aspif_meaning.specs.Program.{is_strict, numbered, constraints, ground_with, ground}
use Rattle.aspif_meaning.specs.Match.{numbers_with, NumberMatch}
use Rattle.aspif_meaning.proofs.Laws.Ground.{kept_in, reduct-model, ground-contains, ground-intro}
use Rattle.aspif_meaning.proofs.Laws.Occurring.{occurs-head, occurs-positive, occurs-naf, answer-set-occurs}
use Rattle.aspif_meaning.proofs.Laws.Numbering.{literals-same, number-one}
use Rattle.aspif_meaning.proofs.Laws.Constraints.{Free, constraints-hold, constraints-free}

-- different literals of a list have different numbers
abbrev pub OneToOne : (Literal → ℕ) → List Literal → Type 0
OneToOne ν ls = (l m : Literal) → T (set_of ls l) → T (set_of ls m) → ν l ≡ ν m → l ≡ m

module _ (p : Program) (plain : T (each_of is_strict p)) (ν : Literal → ℕ) (one : OneToOne ν (occurring p)) where
  occurs : LiteralSet
  occurs = set_of (occurring p)

  -- a set of literals and one of numbers hold the same of the literals that occur
  Agree : LiteralSet → NumberSet → Type 0
  Agree s x = (l : Literal) → T (occurs l) → s l ≡ x (ν l)

  -- what is left of a strict rule holds
  strict-satisfied : (h b c : List Literal) (s u : LiteralSet) → satisfied (remainder (strict h b c) s) u ≡ (some_of s c || (not (each_of u b) || some_of u h))
  unfolding satisfied remainder holds
  strict-satisfied h b c s u = go (some_of s c)
    where
      go : (x : Bool) → satisfied (cond x none (some (record { head = h; positive = b }))) u ≡ (x || (not (each_of u b) || some_of u h))
      go true = refl
      go false = refl

  -- a rule asks the same of sets that agree
  rule-agrees : (s u : LiteralSet) (x y : NumberSet) → Agree s x → Agree u y → (r : Rule) → Memᴰ r p
      → satisfied (remainder r s) u ≡ kept_in x y (numbered ν r)
  unfolding numbered is_strict Agree occurs head positive naf
  rule-agrees s u x y e f r m = go r m (all-mem is_strict plain m)
    where
      some-agree : (s : LiteralSet) (x : NumberSet) → Agree s x → (ls : List Literal) → ((l : Literal) → Memᴰ l ls → T (occurs l))
          → some_of s ls ≡ some_of x (map ν ls)
      some-agree s x e ls o = any-agree ls (λ l w. e l (o l w)) ∙ sym (any-map x ν ls)

      each-agree : (s : LiteralSet) (x : NumberSet) → Agree s x → (ls : List Literal) → ((l : Literal) → Memᴰ l ls → T (occurs l))
          → each_of s ls ≡ each_of x (map ν ls)
      each-agree s x e ls o = all-agree ls (λ l w. e l (o l w)) ∙ sym (all_map x ν ls)

      go : (r : Rule) → Memᴰ r p → T (is_strict r) → satisfied (remainder r s) u ≡ kept_in x y (numbered ν r)
      go (strict h b c) m t =
          strict-satisfied h b c s u
          ∙ ap₂ (λ (i j : Bool). i || j) (some-agree s x e c (occurs-naf m))
          (ap₂ (λ (i j : Bool). not i || j) (each-agree u y f b (occurs-positive m)) (some-agree u y f h (occurs-head m)))
      go (defeasible t h b c) m y = absurd y

  -- a program's quotient and its rules' reduct have the same models, in sets that agree
  models-agree : (s u : LiteralSet) (x y : NumberSet) → Agree s x → Agree u y → models (quotient p s) u ≡ each_of (kept_in x y) (map (numbered ν) p)
  models-agree s u x y e f =
      models-quotient p s u ∙ all-agree p (rule-agrees s u x y e f) ∙ sym (all_map (kept_in x y) (numbered ν) p)

  -- the numbers of a set agree with it, and so do the literals of a set of numbers
  numbers-agree : (s : LiteralSet) → Agree s (numbers_with ν (occurring p) s)
  unfolding Agree occurs numbers_with
  numbers-agree s l o =
      same_test (s l) (some_of (λ m. s m && eqb (ν m) (ν l)) (occurring p))
      (λ t. any-mem (λ m. s m && eqb (ν m) (ν l)) (mem-set-of l (occurring p) o) (both (s l) (eqb (ν l) (ν l)) t (eqb_refl (ν l))))
      (λ t.
      let w = any_found (λ m. s m && eqb (ν m) (ν l)) (occurring p) t in
      let same = one w.0 l (set-of-mem w.1) o (eqb→eq (ν w.0) (ν l) (second (s w.0) (eqb (ν w.0) (ν l)) w.2)) in
      subst (λ (m : Literal). T (s m)) same (first (s w.0) (eqb (ν w.0) (ν l)) w.2))

  literals_of : NumberSet → LiteralSet
  literals_of x l = occurs l && x (ν l)

  literals-agree : (x : NumberSet) → Agree (literals_of x) x
  unfolding Agree literals_of
  literals-agree x l o = same_test (occurs l && x (ν l)) (x (ν l)) (λ t. second (occurs l) (x (ν l)) t) (λ t. both (occurs l) (x (ν l)) o t)

  -- a number of a set is that of a literal of the set
  number-found : (s : LiteralSet) (n : ℕ) → T (numbers_with ν (occurring p) s n) → (l : Literal) × T (occurs l) × T (s l) × (ν l ≡ n)
  unfolding numbers_with occurs
  number-found s n t =
      let w = any_found (λ m. s m && eqb (ν m) n) (occurring p) t in
      (w.0, set-of-mem w.1, first (s w.0) (eqb (ν w.0) n) w.2, eqb→eq (ν w.0) n (second (s w.0) (eqb (ν w.0) n) w.2))

  -- sets that occur are one where their numbers are
  numbers-injective : (s u : LiteralSet) → Subset s occurs → Subset u occurs → numbers_with ν (occurring p) s ≡ numbers_with ν (occurring p) u → s ≡ u
  unfolding Agree
  numbers-injective s u os ou e = set-ext s u (λ l t. go s u e l (os l t) t) (λ l t. go u s (sym e) l (ou l t) t)
    where
      go : (s u : LiteralSet) → numbers_with ν (occurring p) s ≡ numbers_with ν (occurring p) u → (l : Literal) → T (occurs l) → T (s l) → T (u l)
      go s u e l o t =
          along (sym (numbers-agree u l o)) (subst (λ (x : NumberSet). T (x (ν l))) e (along (numbers-agree s l o) t))

  -- the literals that constraints are for: those that occur
  module _ (ls : List Literal) (same : set_of ls ≡ set_of (occurring p)) where
    g : GroundProgram
    g = ground_with ν ls p

    in-ls : (l : Literal) → T (occurs l) → T (set_of ls l)
    unfolding occurs
    in-ls l o = subst (λ (s : LiteralSet). T (s l)) (sym same) o

    of-ls : (l : Literal) → T (set_of ls l) → T (occurs l)
    unfolding occurs
    of-ls l o = subst (λ (s : LiteralSet). T (s l)) same o

    -- a model of the reduct: the rules and the constraints hold
    reduct-agrees : (x y : NumberSet) → is_model (reduct g x) y ≡ (each_of (kept_in x y) (map (numbered ν) p) && each_of (kept_in x y) (constraints ν ls))
    unfolding g ground_with
    reduct-agrees x y = reduct-model g x y ∙ all_append (kept_in x y) (map (numbered ν) p) (constraints ν ls)

    -- from a model of the quotient, where no atom is there both ways
    to-reduct : (s u : LiteralSet) (x y : NumberSet) → Agree s x → Agree u y → T (models (quotient p s) u) → Free ν (set_of ls) ls y → T (is_model (reduct g x) y)
    unfolding constraints
    to-reduct s u x y e f m free =
        along (sym (reduct-agrees x y))
        (both (each_of (kept_in x y) (map (numbered ν) p)) (each_of (kept_in x y) (constraints ν ls)) (along (models-agree s u x y e f) m)
        (constraints-hold ν (set_of ls) x y ls free))

    -- and back
    to-quotient : (s u : LiteralSet) (x y : NumberSet) → Agree s x → Agree u y → T (is_model (reduct g x) y) → T (models (quotient p s) u)
    to-quotient s u x y e f m =
        along (sym (models-agree s u x y e f))
        (first (each_of (kept_in x y) (map (numbered ν) p)) (each_of (kept_in x y) (constraints ν ls)) (along (reduct-agrees x y) m))

    reduct-free : (x y : NumberSet) → T (is_model (reduct g x) y) → Free ν (set_of ls) ls y
    unfolding constraints
    reduct-free x y m =
        constraints-free ν (set_of ls) x y ls
        (second (each_of (kept_in x y) (map (numbered ν) p)) (each_of (kept_in x y) (constraints ν ls)) (along (reduct-agrees x y) m))

    free_part : (x y : NumberSet) → Subset y x → Free ν (set_of ls) ls x → Free ν (set_of ls) ls y
    free_part x y sub free a m o s t = free a m o (sub (ν (Signed (Positive a))) s) (sub (ν (Signed (Negative a))) t)

    -- the numbers of an answer set are one
    numbers-answer : (s : LiteralSet) → AnswerSet p s → GroundAnswerSet g (numbers_with ν (occurring p) s)
    unfolding Interpretation Agree literals_of
    numbers-answer s a = ground-intro g x (to-reduct s s x x (numbers-agree s) (numbers-agree s) a.model free) contained
      where
        x : NumberSet
        x = numbers_with ν (occurring p) s

        back : (l : Literal) → T (occurs l) → T (x (ν l)) → T (s l)
        back l o t = along (sym (numbers-agree s l o)) t

        free : Free ν (set_of ls) ls x
        free atom m o t u =
            a.consistent atom (back (Signed (Positive atom)) (of-ls (Signed (Positive atom)) (set-of-mem m)) t)
            (back (Signed (Negative atom)) (of-ls (Signed (Negative atom)) o) u)

        contained : (y : NumberSet) → Subset y x → T (is_model (reduct g x) y) → Subset x y
        contained y sub m n t =
            let w = number-found s n t in
            let whole = answer-set-contains a (literals_of y) (λ l k. back l (first (occurs l) (y (ν l)) k) (sub (ν l) (second (occurs l) (y (ν l)) k)))
            (to-quotient s (literals_of y) x y (numbers-agree s) (literals-agree y) m) in
            subst (λ (k : ℕ). T (y k)) w.3 (second (occurs w.0) (y (ν w.0)) (whole w.0 w.2))

    -- a set of literals that occur, whose numbers are an answer set, is one
    answer-numbers : (s : LiteralSet) → Subset s occurs → GroundAnswerSet g (numbers_with ν (occurring p) s) → AnswerSet p s
    unfolding Interpretation Agree
    answer-numbers s o a = answer-set-intro p s consistent (to-quotient s s x x (numbers-agree s) (numbers-agree s) a.model) contained
      where
        x : NumberSet
        x = numbers_with ν (occurring p) s

        there : (l : Literal) → T (s l) → T (x (ν l))
        there l t = along (numbers-agree s l (o l t)) t

        free : Free ν (set_of ls) ls x
        free = reduct-free x x a.model

        consistent : Interpretation s
        consistent atom t u =
            free atom (mem-set-of (Signed (Positive atom)) ls (in-ls (Signed (Positive atom)) (o (Signed (Positive atom)) t)))
            (in-ls (Signed (Negative atom)) (o (Signed (Negative atom)) u)) (there (Signed (Positive atom)) t) (there (Signed (Negative atom)) u)

        contained : (u : LiteralSet) → Subset u s → T (models (quotient p s) u) → Subset s u
        contained u sub m l t =
            let y = numbers_with ν (occurring p) u in
            let part : Subset y x = λ n k. let w = number-found u n k in subst (λ (i : ℕ). T (x i)) w.3 (there w.0 (sub w.0 w.2)) in
            let whole = ground-contains a y part (to-reduct s u x y (numbers-agree s) (numbers-agree u) m (free_part x y part free)) in
            along (sym (numbers-agree u l (o l t))) (whole (ν l) (there l t))

    -- an answer set of g holds numbers of literals that occur, and no other
    numbers-whole : (x : NumberSet) → GroundAnswerSet g x → numbers_with ν (occurring p) (literals_of x) ≡ x
    unfolding Agree literals_of
    numbers-whole x a = set-ext z x part (ground-contains a z part model)
      where
        z : NumberSet
        z = numbers_with ν (occurring p) (literals_of x)

        part : Subset z x
        part n t = let w = number-found (literals_of x) n t in subst (λ (k : ℕ). T (x k)) w.3 (second (occurs w.0) (x (ν w.0)) w.2)

        model : T (is_model (reduct g x) z)
        model =
            to-reduct (literals_of x) (literals_of x) x z (literals-agree x) (numbers-agree (literals_of x))
            (to-quotient (literals_of x) (literals_of x) x x (literals-agree x) (literals-agree x) a.model) (free_part x z part (reduct-free x x a.model))

    -- the match, for every plain program, every numbering that is one to one on what occurs, and every set
    pub number-match : NumberMatch p ν (ground_with ν ls p)
    unfolding g occurs literals_of
    number-match =
        record {
          within = answer-set-occurs p;
          matches = λ s o. (numbers-answer s, answer-numbers s o);
          returns =
              λ x a.
              let s = literals_of x in
              let o : Subset s occurs = λ l t. first (occurs l) (x (ν l)) t in
              let e = numbers-whole x a in
              record {
                set = s;
                answers = answer-numbers s o (subst (λ (z : NumberSet). GroundAnswerSet g z) (sym e) a);
                numbers = e;
                only = λ u b f. numbers-injective u s (answer-set-occurs p u b) o (f ∙ sym e);
              };
        }

-- the match by the numbers of Ask 1, for a plain program whose literals' fields fit two bytes each
pub ground-match : (p : Program) → T (each_of is_strict p) → Each Fits (occurring p) → NumberMatch p (number_of p) (ground p)
unfolding ground
ground-match p plain fits = number-match p plain (number_of p) (number-one p fits) (literals p) (literals-same p fits)
