-- What an expanded program is made of, in a form: written rules within its limits, and behind them defeat rules, not too many.
-- In order: an appended rule within the limits; an expanded program within them; how long an appended rule is; each
-- rule keeps the form's limits; the numbers of defeasible rules; the length, the translation's length and count; the limits that are wide
-- enough. Not here: that sheets make such a program (`Expansion`).
-- Assumes nothing.
use Prim.Native.Nat.{ℕ, ◌+◌, ◌*◌, ◌≤◌}
use native.Mathlib.Omega.{arith}
use mathlib.Core.Path.{◌≡◌, refl, sym, ◌∙◌, ap, ap₂, subst}
use mathlib.Core.Bool.{◌&&◌}
use mathlib.Core.Logic.{⊎_elim}
use mathlib.Core.List.{List, [], ◌∷◌, ◌++◌, append-nil}
use lib.Dec.{T}
use lib.ListN.{length, length-append}
use Rattle.literal.specs.declared.Limits.{Limits}
use Rattle.literal.specs.declared.Tag.{Tag}
use Rattle.literal.specs.declared.SignedAtom.{SignedAtom}
use Rattle.literal.specs.declared.Literal.{Literal}
use Rattle.literal.specs.declared.Literal.TheVariants.{Signed, Defeated, Derived, RuleDefeated}
use Rattle.literal.specs.Literal.{ranged, takes}
use Rattle.semantics.specs.Set.{each_of}
use Rattle.semantics.specs.Rule.{Rule, strict, defeasible, Program, head, positive, naf}
use Rattle.semantics.specs.Translation.{record_length, translated_length, translated_lengths, translation_length, translated_count, translated_counts}
use Rattle.semantics.specs.Form.{keeps_counts, keeps_literals, keeps_tag, keeps_rule, keeps_rules, keeps_defeat, most_appended, TakesDefeats, wide}
use Rattle.semantics.proofs.Laws.Tests.{both, first, second, all-mem, all-intro, all_append, all-agree, along}
use Rattle.semantics.proofs.Laws.Position.{At, at-append, at_mem, at-below, Numbered}
use Rattle.semantics.proofs.Laws.Form.{keeps-count, keeps-each, keeps-rules, strict-keeps}
use Rattle.semantics.proofs.Laws.Length.{records_length, program_length, records-length-append, lengths-append, counts-append}

-- a rule is "defeated (lower, loser) if winner", of the form's literals
pub record KeptDefeat (F : Limits) (r : Rule) : Type 0 where
  pub lower : Tag
  pub loser : SignedAtom
  pub winner : SignedAtom
  pub same : r ≡ strict (Defeated lower loser ∷ []) (Signed winner ∷ []) []
  pub mark : T (takes F (Defeated lower loser))
  pub body : T (takes F (Signed winner))

pub kept-defeat : (F : Limits) (r : Rule) → T (keeps_defeat F r) → KeptDefeat F r
unfolding keeps_defeat
kept-defeat F (strict [] b c) k = absurd k
kept-defeat F (strict (Signed x ∷ h) b c) k = absurd k
kept-defeat F (strict (Defeated t x ∷ []) [] c) k = absurd k
kept-defeat F (strict (Defeated t x ∷ []) (Signed a ∷ []) []) k =
    record {
      lower = t;
      loser = x;
      winner = a;
      same = refl;
      mark = first (takes F (Defeated t x)) (takes F (Signed a)) k;
      body = second (takes F (Defeated t x)) (takes F (Signed a)) k;
    }
kept-defeat F (strict (Defeated t x ∷ []) (Signed a ∷ []) (l ∷ c)) k = absurd k
kept-defeat F (strict (Defeated t x ∷ []) (Signed a ∷ (l ∷ b)) c) k = absurd k
kept-defeat F (strict (Defeated t x ∷ []) (Defeated u a ∷ b) c) k = absurd k
kept-defeat F (strict (Defeated t x ∷ []) (Derived u a ∷ b) c) k = absurd k
kept-defeat F (strict (Defeated t x ∷ []) (RuleDefeated n ∷ b) c) k = absurd k
kept-defeat F (strict (Defeated t x ∷ (l ∷ h)) b c) k = absurd k
kept-defeat F (strict (Derived t x ∷ h) b c) k = absurd k
kept-defeat F (strict (RuleDefeated n ∷ h) b c) k = absurd k
kept-defeat F (defeasible t h b c) k = absurd k

pub defeat-keeps : (F : Limits) (t : Tag) (x a : SignedAtom) → T (takes F (Defeated t x)) → T (takes F (Signed a))
    → T (keeps_defeat F (strict (Defeated t x ∷ []) (Signed a ∷ []) []))
unfolding keeps_defeat
defeat-keeps F t x a y z = both (takes F (Defeated t x)) (takes F (Signed a)) y z

-- a program of written rules within the form's limits, and behind them defeat rules, two at most for each override with each opposition
pub record Expanded (F : Limits) (p : Program) : Type 0 where
  pub written : Program
  pub appended : Program
  pub split : p ≡ written ++ appended
  pub keeps : T (keeps_rules F written)
  pub few : length appended ≤ 2 * (F.sheets * F.sheets)
  pub each : T (each_of (keeps_defeat F) appended)

-- a program to which nothing is appended
pub all-written : (F : Limits) (p : Program) → T (keeps_rules F p) → Expanded F p
all-written F p k = record { written = p; appended = []; split = sym (append-nil p); keeps = k; few = omega arith; each = tt }

-- what holds of every rule of an appended rule's shape holds of it
pub defeat-cases : (F : Limits) (P : Rule → Type 0) (r : Rule) → T (keeps_defeat F r)
    → ((t : Tag) (b a : SignedAtom) → T (takes F (Defeated t b)) → T (takes F (Signed a)) → P (strict (Defeated t b ∷ []) (Signed a ∷ []) [])) → P r
defeat-cases F P r k f = let w = kept-defeat F r k in subst P (sym w.same) (f w.lower w.loser w.winner w.mark w.body)

module _ (F : Limits) where
  -- it keeps the form's limits
  pub defeat-rule-keeps : TakesDefeats F → (r : Rule) → T (keeps_defeat F r) → T (keeps_rule F r)
  defeat-rule-keeps ok r k =
      defeat-cases F (λ q. T (keeps_rule F q)) r k
      (λ t b a m w.
      strict-keeps F (Defeated t b ∷ []) (Signed a ∷ []) [] (omega (arith, ok.heads)) (omega (arith, ok.positives)) (omega arith)
      (both (takes F (Defeated t b)) _ m tt) (both (takes F (Signed a)) _ w tt) tt)

  -- 17 bytes, as a record and in the translation, where it is one rule
  defeat-length : (r : Rule) → T (keeps_defeat F r) → record_length r ≡ 17
  unfolding record_length
  defeat-length r k = defeat-cases F (λ q. record_length q ≡ 17) r k (λ t b a m w. refl)

  defeat-translated : (r : Rule) → T (keeps_defeat F r) → translated_length r ≡ 17
  unfolding translated_length
  defeat-translated r k = defeat-cases F (λ q. translated_length q ≡ 17) r k (λ t b a m w. refl)

  defeat-count : (r : Rule) → T (keeps_defeat F r) → translated_count r ≡ 1
  unfolding translated_count
  defeat-count r k = defeat-cases F (λ q. translated_count q ≡ 1) r k (λ t b a m w. refl)

  pub defeats-length : (p : Program) → T (each_of (keeps_defeat F) p) → records_length p ≡ 17 * length p
  unfolding records_length
  defeats-length [] k = refl
  defeats-length (r ∷ p) k = omega (arith, defeat-length r (first (keeps_defeat F r) _ k), defeats-length p (second (keeps_defeat F r) _ k))

  pub defeats-translated : (p : Program) → T (each_of (keeps_defeat F) p) → translated_lengths p ≡ 17 * length p
  unfolding translated_lengths
  defeats-translated [] k = refl
  defeats-translated (r ∷ p) k = omega (arith, defeat-translated r (first (keeps_defeat F r) _ k), defeats-translated p (second (keeps_defeat F r) _ k))

  pub defeats-count : (p : Program) → T (each_of (keeps_defeat F) p) → translated_counts p ≡ length p
  unfolding translated_counts
  defeats-count [] k = refl
  defeats-count (r ∷ p) k = omega (arith, defeat-count r (first (keeps_defeat F r) _ k), defeats-count p (second (keeps_defeat F r) _ k))

  module _ (p : Program) (e : Expanded F p) where
    -- each rule keeps the form's limits
    pub expanded-each : TakesDefeats F → T (each_of (keeps_rule F) p)
    expanded-each ok =
        subst (λ (q : Program). T (each_of (keeps_rule F) q)) (sym e.split)
        (along (sym (all_append (keeps_rule F) e.written e.appended))
        (both (each_of (keeps_rule F) e.written) _ (keeps-each F e.written e.keeps)
        (all-intro (keeps_rule F) e.appended (λ r m. defeat-rule-keeps ok r (all-mem (keeps_defeat F) e.each m)))))

    -- so many rules, written and appended
    pub expanded-length : length p ≡ length e.written + length e.appended
    expanded-length = ap length e.split ∙ length-append e.written e.appended

    pub expanded-few : length p ≤ F.rules + most_appended F
    expanded-few = omega (arith, expanded-length, keeps-count F e.written e.keeps, e.few)

    -- the defeasible rules are written ones: their numbers are those of a form's rules
    pub expanded-numbered : Numbered F.rules 1 p
    unfolding keeps_defeat
    expanded-numbered n t h b c at =
        ⊎_elim (λ a. omega (arith, at-below a, keeps-count F e.written e.keeps))
        (λ a. absurd (all-mem (keeps_defeat F) e.each (at_mem a)))
        (at-append 1 e.written e.appended (subst (At n (defeasible t h b c) 1) e.split at))

    -- what the appended rules add to the length, to the translation's and to its rules
    pub expanded-records : records_length p ≡ records_length e.written + 17 * length e.appended
    expanded-records =
        ap records_length e.split ∙ records-length-append e.written e.appended
        ∙ ap (λ (n : ℕ). records_length e.written + n) (defeats-length e.appended e.each)

    pub expanded-program-length : program_length p ≡ program_length e.written + 17 * length e.appended
    unfolding program_length
    expanded-program-length = omega (arith, expanded-records)

    pub expanded-translated : translated_lengths p ≡ translated_lengths e.written + 17 * length e.appended
    expanded-translated =
        ap translated_lengths e.split ∙ lengths-append e.written e.appended
        ∙ ap (λ (n : ℕ). translated_lengths e.written + n) (defeats-translated e.appended e.each)

    pub expanded-translation-length : translation_length p ≡ translation_length e.written + 17 * length e.appended
    unfolding translation_length
    expanded-translation-length = omega (arith, expanded-translated)

    pub expanded-counts : translated_counts p ≡ translated_counts e.written + length e.appended
    expanded-counts =
        ap translated_counts e.split ∙ counts-append e.written e.appended
        ∙ ap (λ (n : ℕ). translated_counts e.written + n) (defeats-count e.appended e.each)

    -- in bytes, within the limit that has room for the appended rules
    pub expanded-short : program_length e.written ≤ F.length → program_length p ≤ (wide F).length
    unfolding wide
    expanded-short h = omega (arith, expanded-program-length, e.few)

  -- the wide limits are the form's, but for rules and bytes
  pub takes-wide : (l : Literal) → takes (wide F) l ≡ takes F l
  unfolding wide takes ranged
  takes-wide (Signed a) = refl
  takes-wide (Defeated t a) = refl
  takes-wide (Derived t a) = refl
  takes-wide (RuleDefeated n) = refl

  literals-wide : (r : Rule) → keeps_literals (wide F) r ≡ keeps_literals F r
  unfolding keeps_literals
  literals-wide r =
      let each : (ls : List Literal) → each_of (takes (wide F)) ls ≡ each_of (takes F) ls = λ ls. all-agree ls (λ l m. takes-wide l) in
      ap₂ ◌&&◌ (each (head r)) (ap₂ ◌&&◌ (each (positive r)) (each (naf r)))

  tag-wide : (r : Rule) → keeps_tag (wide F) r ≡ keeps_tag F r
  unfolding wide keeps_tag
  tag-wide (strict h b c) = refl
  tag-wide (defeasible t h b c) = refl

  counts-wide : (h b c : ℕ) → keeps_counts (wide F) h b c ≡ keeps_counts F h b c
  unfolding wide keeps_counts
  counts-wide h b c = refl

  pub keeps-rule-wide : (r : Rule) → keeps_rule (wide F) r ≡ keeps_rule F r
  unfolding keeps_rule
  keeps-rule-wide r =
      ap₂ ◌&&◌ (tag-wide r) (ap₂ ◌&&◌ (counts-wide (length (head r)) (length (positive r)) (length (naf r))) (literals-wide r))

  -- within them the whole program is as if written
  pub expanded-wide : TakesDefeats F → (p : Program) → Expanded F p → T (keeps_rules (wide F) p)
  unfolding wide
  expanded-wide ok p e =
      keeps-rules (wide F) p (omega (arith, expanded-few p e))
      (along (sym (all-agree p (λ r m. keeps-rule-wide r))) (expanded-each p e ok))
