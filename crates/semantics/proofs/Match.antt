-- The one-to-one match of answer sets, on programs of literals of kinds 0 to 3.
-- Three facts carry it: a model of p's quotient, with its marks, is one of the translation's; the source literals of
-- a model of the translation's quotient are a model of p's; and such a model has every mark of the extension. For an
-- answer set m of the translation, m with the extension of its restriction is a smaller model.
-- That a number has one rule is used at one point: rule-defeated n in the extension means that rule n is defeated.
-- Assumes nothing.
use Prim.Native.Nat.{ℕ}
use mathlib.Core.Path.{◌≡◌, refl, sym, ◌∙◌, subst}
use mathlib.Core.Bool.{true, ◌&&◌}
use mathlib.Core.Logic.{◌↔◌}
use mathlib.Core.List.{List, Memᴰ}
use lib.Dec.{T}
use Rattle.literal.specs.declared.Tag.{Tag}
use Rattle.literal.specs.declared.SignedAtom.{SignedAtom}
use Rattle.literal.specs.declared.SignedAtom.TheVariants.{Positive, Negative}
use Rattle.literal.specs.declared.Literal.{Literal}
use Rattle.literal.specs.declared.Literal.TheVariants.{Signed, Defeated, Derived, RuleDefeated}
use Rattle.semantics.specs.Set.{LiteralSet, each_of, Subset}
use Rattle.semantics.specs.Rule.{Rule, strict, defeasible, Program, head, positive, naf}
use Rattle.semantics.specs.Meaning.{quotient, models, Interpretation, AnswerSet}
use Rattle.semantics.specs.Translation.{rule_defeated, translation}
use Rattle.semantics.specs.Extension.{defeated_rule, extension, source_kind, restriction}
use Rattle.semantics.specs.Form.{source_rule, SourceSet}
use Rattle.semantics.specs.Match.{KindMatch}
use Rattle.semantics.proofs.Laws.Tests.{both, first, second, same_test, all-intro, all-mem, along}
use Rattle.semantics.proofs.Laws.Set.{set-ext}
use Rattle.semantics.proofs.Laws.Meaning.{Kept, answer-set-contains, answer-set-intro}
use Rattle.semantics.proofs.Laws.Position.{At, all-at, at-unique, models-at, at-models}
use Rattle.semantics.proofs.Laws.Translation.{Translated, models-translation, translation-models}
use Rattle.semantics.proofs.Laws.Extension.{Agree, any-source, all-source, agree-signed, agree-defeated, extension-agree, restriction-agree, extension-derived, derived-extension, extension-defeated, defeated-extension, restriction-source, restriction-subset, restriction-extension, extension-injective}

agree-sym : {s u : LiteralSet} → Agree s u → Agree u s
agree-sym e l k = sym (e l k)

-- the literals of a source rule are of source kinds
source-head : (r : Rule) → T (source_rule r) → T (each_of source_kind (head r))
unfolding source_rule
source-head r k = first (each_of source_kind (head r)) (each_of source_kind (positive r) && each_of source_kind (naf r)) k

source-positive : (r : Rule) → T (source_rule r) → T (each_of source_kind (positive r))
unfolding source_rule
source-positive r k =
    first (each_of source_kind (positive r)) (each_of source_kind (naf r))
    (second (each_of source_kind (head r)) (each_of source_kind (positive r) && each_of source_kind (naf r)) k)

source-naf : (r : Rule) → T (source_rule r) → T (each_of source_kind (naf r))
unfolding source_rule
source-naf r k =
    second (each_of source_kind (positive r)) (each_of source_kind (naf r))
    (second (each_of source_kind (head r)) (each_of source_kind (positive r) && each_of source_kind (naf r)) k)

source-positive-of : (t : Tag) (h : List SignedAtom) (b c : List Literal) → T (source_rule (defeasible t h b c)) → T (each_of source_kind b)
unfolding positive
source-positive-of t h b c k = source-positive (defeasible t h b c) k

source-naf-of : (t : Tag) (h : List SignedAtom) (b c : List Literal) → T (source_rule (defeasible t h b c)) → T (each_of source_kind c)
unfolding naf
source-naf-of t h b c k = source-naf (defeasible t h b c) k

-- a strict source rule looks at source kinds alone
strict-agree : {s t u v : LiteralSet} (h b c : List Literal) → T (source_rule (strict h b c)) → Agree s t → Agree u v
    → Kept (strict h b c) s u → Kept (strict h b c) t v
unfolding head positive naf
strict-agree h b c k e f kept n body =
    along (any-source h f (source-head (strict h b c) k))
    (kept (λ y. n (along (any-source c e (source-naf (strict h b c) k)) y))
    (along (sym (all-source b f (source-positive (strict h b c) k))) body))

-- the marks that a subset v of the source set keeps: those of its own options, and every rule-defeated mark
under : LiteralSet → LiteralSet
under v (Signed a) = v (Signed a)
under v (Defeated t a) = v (Defeated t a)
under v (Derived t a) = v (Signed a)
under v (RuleDefeated n) = true

module _ (p : Program) (sources : T (each_of source_rule p)) (s : LiteralSet) (source : SourceSet s) where
  -- v with its marks, within the extension of s
  marked_set : LiteralSet → LiteralSet
  marked_set v l = extension p s l && under v l

  marked-subset : (v : LiteralSet) → Subset (marked_set v) (extension p s)
  unfolding marked_set
  marked-subset v l y = first (extension p s l) (under v l) y

  marked-agree : (v : LiteralSet) → Subset v s → Agree (marked_set v) v
  unfolding marked_set under source_kind
  marked-agree v sub l k = go l k
    where
      test : (l : Literal) → T (source_kind l) → (extension p s l && v l) ≡ v l
      test l k =
          same_test (extension p s l && v l) (v l) (λ y. second (extension p s l) (v l) y)
          (λ y. both (extension p s l) (v l) (along (sym (extension-agree p s l k)) (sub l y)) y)

      go : (l : Literal) → T (source_kind l) → (extension p s l && under v l) ≡ v l
      go (Signed a) k = test (Signed a) k
      go (Defeated t a) k = test (Defeated t a) k
      go (Derived t a) k = absurd k
      go (RuleDefeated n) k = absurd k

  -- rule-defeated n in the extension means that rule n is defeated: a number has one rule
  defeated-rule : {n : ℕ} {r : Rule} → At n r 1 p → T (extension p s (rule_defeated n)) → T (defeated_rule s r)
  defeated-rule {n} at y =
      let w = extension-defeated p s source (record { 0 = n }) y in
      subst (λ (q : Rule). T (defeated_rule s q)) (at-unique w.1 at) w.2

  -- a model of p's quotient, with its marks, is a model of the translation's
  marked-models : (v : LiteralSet) → Subset v s → T (models (quotient p s) v) → T (models (quotient (translation p) (extension p s)) (marked_set v))
  unfolding marked_set under defeated_rule
  marked-models v sub m = translation-models p (extension p s) (marked_set v) (λ n r at. go n r at (models-at 1 s v m at) (all-at source_rule sources at))
    where
      e : Agree (extension p s) s
      e = extension-agree p s

      f : Agree (marked_set v) v
      f = marked-agree v sub

      go : (n : ℕ) (r : Rule) → At n r 1 p → Kept r s v → T (source_rule r) → Translated n r (extension p s) (marked_set v)
      go n (strict h b c) at k source-r = strict-agree h b c source-r (agree-sym e) (agree-sym f) k
      go n (defeasible t h b c) at k source-r =
          record {
            chosen =
                λ absent left body.
                let w =
                k (λ y. absent (along (sym (any-source c e (source-naf-of t h b c source-r))) y))
                (λ d. left (defeated-extension p s (record { 0 = n }) at d))
                (along (all-source b f (source-positive-of t h b c source-r)) body) in (
                  w.0,
                  w.1,
                  both (extension p s (Derived t w.0)) (v (Signed w.0))
                      (derived-extension p s at w.1 (sub (Signed w.0) w.3) w.2) w.3,
                );
            ruled =
                λ d.
                both (extension p s (rule_defeated n)) true
                (defeated-extension p s (record { 0 = n }) at
                (all-intro (λ a. s (Defeated t a)) h
                (λ a m. sub (Defeated t a) (along (agree-defeated f t a) (all-mem (λ a. marked_set v (Defeated t a)) d m))))) tt;
            holds = λ {a} m d. along (sym (agree-signed f a)) (second (extension p s (Derived t a)) (v (Signed a)) d);
            derived =
                λ {a} m y left.
                let z = along (agree-signed f a) y in
                both (extension p s (Derived t a)) (v (Signed a))
                (derived-extension p s at m (sub (Signed a) z) (λ d. left (along (sym (agree-defeated e t a)) d))) z;
            never =
                λ {a} m d y.
                (extension-derived p s source t a (first (extension p s (Derived t a)) (v (Signed a)) d)).undefeated
                (sub (Defeated t a) (along (agree-defeated f t a) y));
          }

  -- the source literals of a model of the translation's quotient are a model of p's
  restricted-models : (u : LiteralSet) → Subset u (extension p s) → T (models (quotient (translation p) (extension p s)) u)
      → T (models (quotient p s) (restriction u))
  unfolding defeated_rule
  restricted-models u sub m = at-models 1 p s (restriction u) (λ n r at. go n r at (models-translation p (extension p s) u m at) (all-at source_rule sources at))
    where
      e : Agree (extension p s) s
      e = extension-agree p s

      f : Agree (restriction u) u
      f = restriction-agree u

      go : (n : ℕ) (r : Rule) → At n r 1 p → Translated n r (extension p s) u → T (source_rule r) → Kept r s (restriction u)
      go n (strict h b c) at k source-r = strict-agree h b c source-r e (agree-sym f) k
      go n (defeasible t h b c) at k source-r =
          λ absent left body.
          let w =
          k.chosen (λ y. absent (along (any-source c e (source-naf-of t h b c source-r)) y)) (λ y. left (defeated-rule at y))
          (along (all-source b f (source-positive-of t h b c source-r)) body) in (
            w.0,
            w.1,
            (extension-derived p s source t w.0 (sub (Derived t w.0) w.2)).undefeated,
            along (sym (agree-signed f w.0)) (k.holds w.1 w.2),
          )

-- a model u of the translation's quotient by a set that agrees with s has, with s, every mark of the extension
extension-contained : (p : Program) (s : LiteralSet) → SourceSet s → (r u : LiteralSet) → Agree r s → T (models (quotient (translation p) r) u)
    → Subset s u → Subset (extension p s) u
unfolding defeated_rule source_kind
extension-contained p s source r u e m sub = go
  where
    ruled : (n : ℕ) (q : Rule) → At n q 1 p → T (defeated_rule s q) → Translated n q r u → T (u (rule_defeated n))
    ruled n (strict h b c) at d k = absurd d
    ruled n (defeasible t h b c) at d k = k.ruled (all-intro (λ a. u (Defeated t a)) h (λ a w. sub (Defeated t a) (all-mem (λ a. s (Defeated t a)) d w)))

    go : (l : Literal) → T (extension p s l) → T (u l)
    go (Signed a) y = sub (Signed a) (along (agree-signed (extension-agree p s) a) y)
    go (Defeated t a) y = sub (Defeated t a) (along (agree-defeated (extension-agree p s) t a) y)
    go (Derived t a) y =
        let d = extension-derived p s source t a y in
        (models-translation p r u m d.offer.at).derived d.offer.mem (sub (Signed a) d.holds) (λ z. d.undefeated (along (agree-defeated e t a) z))
    go (RuleDefeated n) y =
        let w = extension-defeated p s source n y in
        ruled n.0 w.0 w.1 w.2 (models-translation p r u m w.1)

module _ (p : Program) (sources : T (each_of source_rule p)) where
  -- an answer set of p extends to one of the translation
  extends : (s : LiteralSet) → SourceSet s → AnswerSet p s → AnswerSet (translation p) (extension p s)
  unfolding Interpretation marked_set under
  extends s source a =
      answer-set-intro (translation p) (extension p s) consistent whole (λ u sub m. contained u sub m)
    where
      e : Agree (extension p s) s
      e = extension-agree p s

      consistent : Interpretation (extension p s)
      consistent atom y z = a.consistent atom (along (agree-signed e (Positive atom)) y) (along (agree-signed e (Negative atom)) z)

      full : (l : Literal) → T (extension p s l) → T (marked_set p sources s source s l)
      full (Signed b) y = both (extension p s (Signed b)) (s (Signed b)) y (along (agree-signed e b) y)
      full (Defeated t b) y = both (extension p s (Defeated t b)) (s (Defeated t b)) y (along (agree-defeated e t b) y)
      full (Derived t b) y = both (extension p s (Derived t b)) (s (Signed b)) y (extension-derived p s source t b y).holds
      full (RuleDefeated n) y = both (extension p s (RuleDefeated n)) true y tt

      whole : T (models (quotient (translation p) (extension p s)) (extension p s))
      whole =
          subst (λ (u : LiteralSet). T (models (quotient (translation p) (extension p s)) u))
          (set-ext (marked_set p sources s source s) (extension p s) (marked-subset p sources s source s) full)
          (marked-models p sources s source s (λ l y. y) a.model)

      contained : (u : LiteralSet) → Subset u (extension p s) → T (models (quotient (translation p) (extension p s)) u) → Subset (extension p s) u
      contained u sub m =
          let within : Subset (restriction u) s = λ l y. along (e l (restriction-source u l y)) (sub l (restriction-subset u l y)) in
          let back = answer-set-contains a (restriction u) within (restricted-models p sources s source u sub m) in
          extension-contained p s source (extension p s) u e m (λ l y. restriction-subset u l (back l y))

  -- a set whose extension is an answer set of the translation is one of p
  restricts : (s : LiteralSet) → SourceSet s → AnswerSet (translation p) (extension p s) → AnswerSet p s
  unfolding Interpretation
  restricts s source a = answer-set-intro p s consistent whole (λ v sub m. contained v sub m)
    where
      e : Agree (extension p s) s
      e = extension-agree p s

      consistent : Interpretation s
      consistent atom y z = a.consistent atom (along (sym (agree-signed e (Positive atom))) y) (along (sym (agree-signed e (Negative atom))) z)

      whole : T (models (quotient p s) s)
      whole =
          subst (λ (u : LiteralSet). T (models (quotient p s) u)) (restriction-extension p s source)
          (restricted-models p sources s source (extension p s) (λ l y. y) a.model)

      contained : (v : LiteralSet) → Subset v s → T (models (quotient p s) v) → Subset s v
      contained v sub m l y =
          let all-marked = answer-set-contains a (marked_set p sources s source v) (marked-subset p sources s source v)
          (marked-models p sources s source v sub m) in
          along (marked-agree p sources s source v sub l (source l y)) (all-marked l (along (sym (e l (source l y))) y))

  -- the part of m within the extension of its restriction is a model of the translation's quotient, where m is one
  part : LiteralSet → LiteralSet
  part m l = m l && extension p (restriction m) l

  part-agree : (m : LiteralSet) → Agree (part m) m
  unfolding part
  part-agree m l k =
      same_test (m l && extension p (restriction m) l) (m l) (λ y. first (m l) (extension p (restriction m) l) y)
      (λ y. both (m l) (extension p (restriction m) l) y (along (sym (extension-agree p (restriction m) l k ∙ restriction-agree m l k)) y))

  part-models : (m : LiteralSet) → T (models (quotient (translation p) m) m) → T (models (quotient (translation p) m) (part m))
  unfolding part defeated_rule
  part-models m y = translation-models p m (part m) (λ n r at. go n r at (models-translation p m m y at) (all-at source_rule sources at))
    where
      s : LiteralSet
      s = restriction m

      e : Agree s m
      e = restriction-agree m

      in-part : (l : Literal) → T (m l) → T (extension p s l) → T (part m l)
      in-part l y z = both (m l) (extension p s l) y z

      of-m : (l : Literal) → T (part m l) → T (m l)
      of-m l y = first (m l) (extension p s l) y

      go : (n : ℕ) (r : Rule) → At n r 1 p → Translated n r m m → T (source_rule r) → Translated n r m (part m)
      go n (strict h b c) at k source-r = strict-agree h b c source-r (λ l z. refl) (agree-sym (part-agree m)) k
      go n (defeasible t h b c) at k source-r =
          record {
            chosen =
                λ absent left body.
                let w = k.chosen absent left (along (all-source b (part-agree m) (source-positive-of t h b c source-r)) body) in
                (w.0, w.1, in-part (Derived t w.0) w.2 (mark w.0 w.1 (k.holds w.1 w.2) (k.never w.1 w.2)));
            ruled =
                λ d.
                in-part (rule_defeated n)
                (k.ruled (all-intro (λ a. m (Defeated t a)) h (λ a w. of-m (Defeated t a) (all-mem (λ a. part m (Defeated t a)) d w))))
                (defeated-extension p s (record { 0 = n }) at
                (all-intro (λ a. s (Defeated t a)) h
                (λ a w. along (sym (agree-defeated e t a)) (of-m (Defeated t a) (all-mem (λ a. part m (Defeated t a)) d w)))));
            holds = λ {a} w d. along (sym (agree-signed (part-agree m) a)) (k.holds w (of-m (Derived t a) d));
            derived =
                λ {a} w z left.
                let held = of-m (Signed a) z in
                in-part (Derived t a) (k.derived w held left) (mark a w held left);
            never = λ {a} w d z. k.never w (of-m (Derived t a) d) (of-m (Defeated t a) z);
          }
        where
          mark : (a : SignedAtom) → Memᴰ a h → T (m (Signed a)) → (T (m (Defeated t a)) → ⊥) → T (extension p s (Derived t a))
          mark a w z left = derived-extension p s at w (along (sym (agree-signed e a)) z) (λ d. left (along (agree-defeated e t a) d))

  -- an answer set of the translation is the extension of its restriction
  pub extension-restriction : (m : LiteralSet) → AnswerSet (translation p) m → extension p (restriction m) ≡ m
  unfolding part
  extension-restriction m a =
      set-ext (extension p (restriction m)) m
      (extension-contained p (restriction m) (restriction-source m) m m (agree-sym (restriction-agree m)) a.model (restriction-subset m))
      (λ l y. second (m l) (extension p (restriction m) l)
      (answer-set-contains a (part m) (λ l z. first (m l) (extension p (restriction m) l) z) (part-models m a.model) l y))

  -- the match, for every list of rules and every set over kinds 0 to 3, also with a clash
  pub extension-iff : (s : LiteralSet) → SourceSet s → AnswerSet p s ↔ AnswerSet (translation p) (extension p s)
  extension-iff s source = (extends s source, restricts s source)

  pub kind-match : KindMatch p
  kind-match =
      record {
        extends = extension-iff;
        plain = λ s source. record {};
        returns =
            λ m some_of a.
            record {
              set = restriction m;
              within = restriction-source m;
              extends = extension-restriction m a;
              only = λ s source e. extension-injective p s (restriction m) source (restriction-source m) (e ∙ sym (extension-restriction m a));
            };
      }
