-- Laws of the check (01, "Check"): what each finding says of a program and of a set that is given as a list.
-- In order: the first of a list's elements that passes a test; the first clash; the first broken rule; smaller models;
-- the findings. Not here: what the findings say (`specs/Findings`); the first part that passes a test (`Part`).
-- Assumes nothing.
use Prim.Native.Nat.{ℕ, ◌+◌}
use native.Mathlib.Omega.{arith}
use mathlib.Core.Path.{◌≡◌, refl, sym, ◌∙◌, ap, subst}
use mathlib.Core.Bool.{Bool, true, false, cond, not}
use mathlib.Core.Logic.Iff
use mathlib.Core.Logic.{◌↔◌}
use mathlib.Core.List.Memᴰ
use mathlib.Core.List.{List, [], ◌∷◌, ◌++◌, Memᴰ}
use mathlib.Core.Option.{Option, none, some, some-injective, none-ne-some, some-ne-none}
use lib.Dec.{T}
use lib.ListN.{length}
use Rattle.literal.specs.declared.SignedAtom.TheVariants.{Positive, Negative}
use Rattle.literal.specs.declared.Literal.{Literal}
use Rattle.literal.specs.declared.Literal.TheVariants.{Signed, Defeated, Derived, RuleDefeated}
use Rattle.literal.specs.Literal.{opposite}
use Rattle.semantics.specs.Set.{LiteralSet, each_of, ProperSubset, set_of}
use Rattle.semantics.specs.Rule.{Rule, Program, Remainder}
use Rattle.semantics.specs.Meaning.{remainder, quotient, satisfied, models, Interpretation, AnswerSet}
use Rattle.semantics.specs.Verdict.{Finding, clash, broken, smaller, answer_set, opposed, clash_from, broken_from, first_subset, smaller_model, finding}
use Rattle.semantics.specs.Findings.{FirstAt, FirstPassing, FirstOpposed, FirstBroken, BrokenAt, Part, SmallerBy}
use Rattle.semantics.proofs.Laws.Tests.{both, first, second, fails, refuted, is_true, is_false, along, all-mem, all-intro}
use Rattle.semantics.proofs.Laws.Set.{set-of-mem, mem-set-of, set-ext}
use Rattle.semantics.proofs.Laws.Meaning.{models-quotient}
use Rattle.semantics.proofs.Laws.Part.{first-none, none_first, first_some, some_first, part-subset, filtered-part, set-of-filtered}

-- a test whose negation fails passes
unrefuted : (b : Bool) → (T (not b) → ⊥) → T b
unrefuted true f = tt
unrefuted false f = f tt

found_none : (b : Bool) (k : ℕ) (o : Option ℕ) → cond b (some k) o ≡ none → (b ≡ false) × (o ≡ none)
found_none true k o e = absurd (some-ne-none k e)
found_none false k o e = (refl, e)

module _ {A : Type 0} where
  -- the position, counted from k, of the first element that passes a test
  first_from : (A → Bool) → ℕ → List A → Option ℕ
  first_from f k [] = none
  first_from f k (x ∷ xs) = cond (f x) (some k) (first_from f (k + 1) xs)

  -- where none is found, none passes, and back
  none_passes : (f : A → Bool) {x : A} (k : ℕ) {xs : List A} → first_from f k xs ≡ none → Memᴰ x xs → T (f x) → ⊥
  unfolding first_from
  none_passes f k e (Memᴰ.head {x = y} {xs} q) t =
      along (found_none (f y) k (first_from f (k + 1) xs) e).0 (subst (λ (z : A). T (f z)) q t)
  none_passes f k e (Memᴰ.tail {x = y} {xs} m) t = none_passes f (k + 1) (found_none (f y) k (first_from f (k + 1) xs) e).1 m t

  passes_none : (f : A → Bool) (k : ℕ) (xs : List A) → ((x : A) → Memᴰ x xs → T (f x) → ⊥) → first_from f k xs ≡ none
  unfolding first_from
  passes_none f k [] h = refl
  passes_none f k (x ∷ xs) h =
      rw (is_false (f x) (h x (Memᴰ.head refl))) (passes_none f (k + 1) xs (λ y m. h y (Memᴰ.tail m)))

  -- one more element in front
  later : {F P : A → Type 0} {k : ℕ} {x : A} {xs : List A} {n : ℕ} → P x → FirstAt F P (k + 1) xs n → FirstAt F P k (x ∷ xs) n
  later {P} {k} {x} p w =
      record {
        before = x ∷ w.before;
        here = w.here;
        after = w.after;
        splits = ap (λ l. x ∷ l) w.splits;
        position = omega (arith, w.position);
        found = w.found;
        passed = passed;
      }
    where
      passed : (y : A) → Memᴰ y (x ∷ w.before) → P y
      passed y (Memᴰ.head e) = subst P (sym e) p
      passed y (Memᴰ.tail m) = w.passed y m

  -- what is found is the first that passes, and back
  first_passes : (f : A → Bool) (k : ℕ) (xs : List A) (n : ℕ) → first_from f k xs ≡ some n → FirstPassing f k xs n
  unfolding first_from
  first_passes f k [] n e = absurd (none-ne-some n e)
  first_passes f k (x ∷ xs) n e = go (f x) refl (first_passes f (k + 1) xs n) e
    where
      go : (b : Bool) → f x ≡ b → (first_from f (k + 1) xs ≡ some n → FirstPassing f (k + 1) xs n)
          → cond b (some k) (first_from f (k + 1) xs) ≡ some n → FirstPassing f k (x ∷ xs) n
      go true q ih e =
          record {
            before = [];
            here = x;
            after = xs;
            splits = refl;
            position = omega (arith, some-injective k n e);
            found = along (sym q) tt;
            passed = λ y m. absurd (Memᴰ.not-nil m);
          }
      go false q ih e = later (along q) (ih e)

  passes-first : (f : A → Bool) (k : ℕ) (before : List A) (x : A) (after : List A)
      → ((y : A) → Memᴰ y before → T (f y) → ⊥) → T (f x) → first_from f k (before ++ (x ∷ after)) ≡ some (k + length before)
  unfolding first_from
  passes-first f k [] x after h t = rw (is_true (f x) t) (ap some (omega arith))
  passes-first f k (y ∷ ys) x after h t =
      rw (is_false (f y) (h y (Memᴰ.head refl))) (passes-first f (k + 1) ys x after (λ z m. h z (Memᴰ.tail m)) t ∙ ap some (omega arith))

  first_found : (f : A → Bool) (k : ℕ) (xs : List A) (n : ℕ) → FirstPassing f k xs n → first_from f k xs ≡ some n
  first_found f k xs n w =
      ap (first_from f k) w.splits ∙ passes-first f k w.before w.here w.after w.passed w.found ∙ ap some (sym w.position)

  -- the same position, described by other properties
  described : {F G P Q : A → Type 0} {k : ℕ} {xs : List A} {n : ℕ} → ((x : A) → F x → G x) → ((x : A) → P x → Q x) → FirstAt F P k xs n → FirstAt G Q k xs n
  described f g w =
      record {
        before = w.before;
        here = w.here;
        after = w.after;
        splits = w.splits;
        position = w.position;
        found = f w.here w.found;
        passed = λ x m. g x (w.passed x m);
      }

clash-from : (k : ℕ) (s : LiteralSet) (ls : List Literal) → clash_from k s ls ≡ first_from (opposed s) k ls
unfolding clash_from first_from
clash-from k s [] = refl
clash-from k s (l ∷ ls) = rw (clash-from (k + 1) s ls)

-- no clash is found exactly if no literal of the list has its opposite in the set
pub clash-none : (k : ℕ) (s : LiteralSet) (ls : List Literal) → (clash_from k s ls ≡ none) ↔ ((l : Literal) → Memᴰ l ls → T (opposed s l) → ⊥)
clash-none k s ls =
    (λ e l m. none_passes (opposed s) k (sym (clash-from k s ls) ∙ e) m, λ h. clash-from k s ls ∙ passes_none (opposed s) k ls h)

-- what is found is the first literal whose opposite is in the set
pub clash-some : (k : ℕ) (s : LiteralSet) (ls : List Literal) (n : ℕ) → clash_from k s ls ≡ some n → FirstOpposed s k ls n
clash-some k s ls n e = first_passes (opposed s) k ls n (sym (clash-from k s ls) ∙ e)

-- the first literal whose opposite is in the set is found
pub some-clash : (k : ℕ) (s : LiteralSet) (ls : List Literal) (n : ℕ) → FirstOpposed s k ls n → clash_from k s ls ≡ some n
some-clash k s ls n w = clash-from k s ls ∙ first_found (opposed s) k ls n w

interpretation-opposed : (ls : List Literal) → Interpretation (set_of ls) → (l : Literal) → Memᴰ l ls → T (opposed (set_of ls) l) → ⊥
unfolding Interpretation opposed opposite
interpretation-opposed ls i (Signed (Positive a)) m t = i a (set-of-mem m) t
interpretation-opposed ls i (Signed (Negative a)) m t = i a t (set-of-mem m)
interpretation-opposed ls i (Defeated u a) m t = t
interpretation-opposed ls i (Derived u a) m t = t
interpretation-opposed ls i (RuleDefeated n) m t = t

opposed-interpretation : (ls : List Literal) → ((l : Literal) → Memᴰ l ls → T (opposed (set_of ls) l) → ⊥) → Interpretation (set_of ls)
unfolding Interpretation opposed opposite
opposed-interpretation ls h a y z = h (Signed (Positive a)) (mem-set-of (Signed (Positive a)) ls y) z

-- no clash is found exactly if the list is an interpretation, wherever the count starts
pub clash-from-none-iff : (k : ℕ) (ls : List Literal) → (clash_from k (set_of ls) ls ≡ none) ↔ Interpretation (set_of ls)
clash-from-none-iff k ls =
    Iff.trans (clash-none k (set_of ls) ls) (opposed-interpretation ls, interpretation-opposed ls)

-- the same, counted from 1 as the check does
pub clash-none-iff : (ls : List Literal) → (clash_from 1 (set_of ls) ls ≡ none) ↔ Interpretation (set_of ls)
clash-none-iff ls = clash-from-none-iff 1 ls

unsatisfied : LiteralSet → Rule → Bool
unsatisfied s r = not (satisfied (remainder r s) s)

broken-from : (k : ℕ) (p : Program) (s : LiteralSet) → broken_from k p s ≡ first_from (unsatisfied s) k p
unfolding broken_from first_from unsatisfied
broken-from k [] s = refl
broken-from k (r ∷ p) s = go (satisfied (remainder r s) s) (broken-from (k + 1) p s)
  where
    go : (b : Bool) → broken_from (k + 1) p s ≡ first_from (unsatisfied s) (k + 1) p
        → cond b (broken_from (k + 1) p s) (some k) ≡ cond (not b) (some k) (first_from (unsatisfied s) (k + 1) p)
    go true ih = ih
    go false ih = refl

-- no broken rule is found exactly if the set is a model of its quotient
pub broken-none-iff : (k : ℕ) (p : Program) (s : LiteralSet) → (broken_from k p s ≡ none) ↔ T (models (quotient p s) s)
unfolding unsatisfied
broken-none-iff k p s = (forth, back)
  where
    holds_in : Rule → Bool
    holds_in r = satisfied (remainder r s) s

    forth : broken_from k p s ≡ none → T (models (quotient p s) s)
    forth e =
        along (sym (models-quotient p s s))
        (all-intro holds_in p (λ r m. unrefuted (holds_in r) (none_passes (unsatisfied s) k (sym (broken-from k p s) ∙ e) m)))

    back : T (models (quotient p s) s) → broken_from k p s ≡ none
    back t =
        broken-from k p s
        ∙ passes_none (unsatisfied s) k p (λ r m f. fails (holds_in r) f (all-mem holds_in (along (models-quotient p s s) t) m))

-- what is found is the first broken rule
pub broken-some : (k : ℕ) (p : Program) (s : LiteralSet) (n : ℕ) → broken_from k p s ≡ some n → FirstBroken s k p n
unfolding unsatisfied
broken-some k p s n e =
    described (λ r. fails (satisfied (remainder r s) s)) (λ r. unrefuted (satisfied (remainder r s) s))
    (first_passes (unsatisfied s) k p n (sym (broken-from k p s) ∙ e))

-- the first broken rule is found
pub some-broken : (k : ℕ) (p : Program) (s : LiteralSet) (n : ℕ) → FirstBroken s k p n → broken_from k p s ≡ some n
unfolding unsatisfied
some-broken k p s n w =
    broken-from k p s
    ∙ first_found (unsatisfied s) k p n
    (described (λ r. refuted (satisfied (remainder r s) s)) (λ r t f. fails (satisfied (remainder r s) s) f t) w)

-- a part passes the test of a smaller model exactly if it is a proper subset and a model
pub smaller-model-iff : (qs : List Remainder) {s ls : List Literal} → Part s ls
    → T (smaller_model qs ls s) ↔ (ProperSubset (set_of s) (set_of ls) × T (models qs (set_of s)))
unfolding smaller_model
smaller-model-iff qs {s} {ls} w = (
  λ t. (proper (first (not (each_of (set_of s) ls)) (models qs (set_of s)) t), second (not (each_of (set_of s) ls)) (models qs (set_of s)) t),
  λ h. both (not (each_of (set_of s) ls)) (models qs (set_of s)) (refuted (each_of (set_of s) ls) (lacks h.0)) h.1,
)
  where
    proper : T (not (each_of (set_of s) ls)) → ProperSubset (set_of s) (set_of ls)
    proper t =
        record {
          subset = part-subset w;
          differs = λ e. fails (each_of (set_of s) ls) t (all-intro (set_of s) ls (λ l m. subst (λ (v : LiteralSet). T (v l)) (sym e) (set-of-mem m)));
        }

    lacks : ProperSubset (set_of s) (set_of ls) → T (each_of (set_of s) ls) → ⊥
    lacks h t = h.differs (set-ext (set_of s) (set_of ls) (part-subset w) (λ l y. all-mem (set_of s) t (mem-set-of l ls y)))

-- the finding, from what the three searches find
unfoldable pub finding_of : Option ℕ → Option ℕ → Option (List Literal) → Finding
finding_of c b o =
    elim c [ some k ↦ clash k | none ↦ elim b [ some n ↦ broken n | none ↦ elim o [ some s ↦ smaller s | none ↦ answer_set ] ] ]

finding-of : (p : Program) (ls : List Literal)
    → finding p ls ≡ finding_of (clash_from 1 (set_of ls) ls) (broken_from 1 p (set_of ls)) (first_subset ls (smaller_model (quotient p (set_of ls)) ls))
unfolding finding finding_of
finding-of p ls = refl

clash-verdict : (c b : Option ℕ) (o : Option (List Literal)) (k : ℕ) → finding_of c b o ≡ clash k → c ≡ some k
unfolding finding_of
clash-verdict (some j) b o k e = cc
clash-verdict none (some n) o k e = cc
clash-verdict none none (some s) k e = cc
clash-verdict none none none k e = cc

broken-verdict : (c b : Option ℕ) (o : Option (List Literal)) (n : ℕ) → finding_of c b o ≡ broken n → (c ≡ none) × (b ≡ some n)
unfolding finding_of
broken-verdict (some k) b o n e = (cc, cc)
broken-verdict none (some m) o n e = (refl, cc)
broken-verdict none none (some s) n e = (cc, cc)
broken-verdict none none none n e = (cc, cc)

smaller-verdict : (c b : Option ℕ) (o : Option (List Literal)) (s : List Literal) → finding_of c b o ≡ smaller s → (c ≡ none) × (b ≡ none) × (o ≡ some s)
unfolding finding_of
smaller-verdict (some k) b o s e = (cc, cc, cc)
smaller-verdict none (some n) o s e = (cc, cc, cc)
smaller-verdict none none (some u) s e = (refl, refl, cc)
smaller-verdict none none none s e = (cc, cc, cc)

answer-set-verdict : (c b : Option ℕ) (o : Option (List Literal)) → finding_of c b o ≡ answer_set → (c ≡ none) × (b ≡ none) × (o ≡ none)
unfolding finding_of
answer-set-verdict (some k) b o e = (cc, cc, cc)
answer-set-verdict none (some n) o e = (cc, cc, cc)
answer-set-verdict none none (some s) e = (cc, cc, cc)
answer-set-verdict none none none e = (refl, refl, refl)

module _ (p : Program) (ls : List Literal) where
  -- where the three searches' results are known, so is the finding
  pub found_as : {c b : Option ℕ} {o : Option (List Literal)} → clash_from 1 (set_of ls) ls ≡ c → broken_from 1 p (set_of ls) ≡ b
      → first_subset ls (smaller_model (quotient p (set_of ls)) ls) ≡ o → finding p ls ≡ finding_of c b o
  found_as e f g = finding-of p ls ∙ rw (e, f, g)

  -- where the finding is known, so are the searches' results
  clash-known : (k : ℕ) → finding p ls ≡ clash k → clash_from 1 (set_of ls) ls ≡ some k
  clash-known k e = clash-verdict _ _ _ k (sym (finding-of p ls) ∙ e)

  broken-known : (n : ℕ) → finding p ls ≡ broken n → (clash_from 1 (set_of ls) ls ≡ none) × (broken_from 1 p (set_of ls) ≡ some n)
  broken-known n e = broken-verdict _ _ _ n (sym (finding-of p ls) ∙ e)

  -- the finding is clash k exactly if literal k is the first whose opposite is in the set
  pub finding-clash : (k : ℕ) → (finding p ls ≡ clash k) ↔ FirstOpposed (set_of ls) 1 ls k
  unfolding finding_of
  finding-clash k = (
    λ e. clash-some 1 (set_of ls) ls k (clash-known k e),
    λ w. found_as (some-clash 1 (set_of ls) ls k w) refl refl,
  )

  -- the finding is broken n exactly if there is no clash and rule n is the first that is broken
  pub finding-broken : (n : ℕ) → (finding p ls ≡ broken n) ↔ BrokenAt p ls n
  unfolding finding_of
  finding-broken n = (
    λ e. let h = broken-known n e in
        record { consistent = (clash-none-iff ls).0 h.0; rule = broken-some 1 p (set_of ls) n h.1 },
    λ w. found_as ((clash-none-iff ls).1 w.consistent) (some-broken 1 p (set_of ls) n w.rule) refl,
  )

  -- the finding is smaller s exactly if the set is a model without a clash and s the first smaller model
  pub finding-smaller : (s : List Literal) → (finding p ls ≡ smaller s) ↔ SmallerBy p ls s
  unfolding finding_of
  finding-smaller s = (forth, back)
    where
      test : List Literal → Bool
      test = smaller_model (quotient p (set_of ls)) ls

      forth : finding p ls ≡ smaller s → SmallerBy p ls s
      forth e =
          let h = smaller-verdict _ _ _ s (sym (finding-of p ls) ∙ e) in
          let w = first_some ls test s h.2 in
          let q = (smaller-model-iff (quotient p (set_of ls)) w.part).0 w.passes in
          record {
            consistent = (clash-none-iff ls).0 h.0;
            model = (broken-none-iff 1 p (set_of ls)).0 h.1;
            part = w.part;
            proper = q.0;
            smaller = q.1;
            first = λ t v b d m. w.first t v b ((smaller-model-iff (quotient p (set_of ls)) v).1 (d, m));
          }

      back : SmallerBy p ls s → finding p ls ≡ smaller s
      back w =
          found_as ((clash-none-iff ls).1 w.consistent) ((broken-none-iff 1 p (set_of ls)).1 w.model)
          (some_first test
          (record {
            part = w.part;
            passes = (smaller-model-iff (quotient p (set_of ls)) w.part).1 (w.proper, w.smaller);
            first = λ t v b y. let q = (smaller-model-iff (quotient p (set_of ls)) v).0 y in w.first t v b q.0 q.1;
          }))

  -- where no part is a smaller model, no proper subset is a model
  none-smaller : first_subset ls (smaller_model (quotient p (set_of ls)) ls) ≡ none
      → (u : LiteralSet) → ProperSubset u (set_of ls) → T (models (quotient p (set_of ls)) u) → ⊥
  none-smaller e u proper m =
      let q = sym (set-of-filtered u ls proper.subset) in
      first-none (smaller_model (quotient p (set_of ls)) ls) e (filtered-part u ls)
      ((smaller-model-iff (quotient p (set_of ls)) (filtered-part u ls)).1
      (subst (λ (v : LiteralSet). ProperSubset v (set_of ls)) q proper, subst (λ (v : LiteralSet). T (models (quotient p (set_of ls)) v)) q m))

  -- nothing is found exactly if the set is an answer set
  pub finding-answer-set : (finding p ls ≡ answer_set) ↔ AnswerSet p (set_of ls)
  unfolding finding_of
  finding-answer-set = (forth, back)
    where
      forth : finding p ls ≡ answer_set → AnswerSet p (set_of ls)
      forth e =
          let h = answer-set-verdict _ _ _ (sym (finding-of p ls) ∙ e) in
          record {
            consistent = (clash-none-iff ls).0 h.0;
            model = (broken-none-iff 1 p (set_of ls)).0 h.1;
            minimal = none-smaller h.2;
          }

      back : AnswerSet p (set_of ls) → finding p ls ≡ answer_set
      back a =
          found_as ((clash-none-iff ls).1 a.consistent) ((broken-none-iff 1 p (set_of ls)).1 a.model)
          (none_first ls (smaller_model (quotient p (set_of ls)) ls)
          (λ s w t. let q = (smaller-model-iff (quotient p (set_of ls)) w).0 t in a.minimal (set_of s) q.0 q.1))
