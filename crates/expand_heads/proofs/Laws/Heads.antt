-- Laws of heads put into tables: option by option, then rule by rule.
-- In order: the options that are gone; the next option, and none left; places; a rule's record; the next rule.
-- Assumes nothing.
use Prim.Native.Nat.{ℕ, ◌+◌, ◌-◌, ◌≤◌, ◌<◌}
use native.Mathlib.Omega.{arith}
use mathlib.Core.Path.{◌≡◌, refl, sym, ◌∙◌, ap, subst}
use mathlib.Core.List.{List, [], ◌∷◌, ◌++◌, append_assoc, append-nil}
use lib.Bits.{bit_or}
use lib.Dec.{T, ltb, ltb→lt}
use lib.ListN.{length, get_or, set}
use Rattle.literal.specs.declared.Tag.{Tag}
use Rattle.literal.specs.declared.SignedAtom.{SignedAtom}
use Rattle.semantics.specs.Set.{each_of}
use Rattle.semantics.specs.Rule.{Rule, strict, defeasible, Program}
use Rattle.semantics.specs.Expansion.{Override}
use Rattle.semantics.proofs.Laws.Tests.{first, second}
use Rattle.record.specs.Header.{defeasible_letter, letter_of, head_count}
use Rattle.record_walk.specs.Code.{Starts, tag_at, option_at, options_at}
use Rattle.record_walk.proofs.Laws.Fields.{strict-fields, defeasible-fields}
use Rattle.record_walk.proofs.Laws.Options.{options-first, options-none, rule-options, rule-tag}
use Rattle.expand_tables.specs.Code.{place_of, Tables, Headed, Marked}
use Rattle.expand_tables.proofs.Laws.Update.{marked-none, marked_more, headed-strict, headed-defeasible}
use Rattle.expand_heads.specs.Code.{placed, Places, HeadAdded, HeadsAdded}

-- a mask is put to the options of a head that are gone, and `rest` are left
pub record Marking (d e : List ℕ) (m : ℕ) (all rest : List SignedAtom) : Type 0 where
  pub gone : List SignedAtom
  pub split : all ≡ gone ++ rest
  pub marked : Marked d e m gone

pub marking-start : (d : List ℕ) (m : ℕ) (all : List SignedAtom) → Marking d d m all all
marking-start d m all = record { gone = []; split = refl; marked = marked-none d m }

module _ (s : List ℕ) {d e : List ℕ} {m : ℕ} {all : List SignedAtom} (at n : ℕ) (w : Marking d e m all (options_at s at n)) where
  pub marking-next : (k : ℕ) → 0 < n → k ≡ place_of (option_at s at) → k < length e
      → Marking d (set e k (bit_or (get_or e k 0) m)) m all (options_at s (at + 5) (n - 1))
  marking-next k h place within =
      record {
        gone = w.gone ++ option_at s at ∷ [];
        split = w.split ∙ ap (λ (rest : List SignedAtom). w.gone ++ rest) (options-first s at n h)
            ∙ sym (append_assoc w.gone (option_at s at ∷ []) (options_at s (at + 5) (n - 1)));
        marked = marked_more (option_at s at) k place within w.marked;
      }

  pub marking-end : n ≤ 0 → Marked d e m all
  marking-end h =
      subst (λ (h : List SignedAtom). Marked d e m h)
      (sym (w.split ∙ ap (λ (rest : List SignedAtom). w.gone ++ rest) (options-none s at n h) ∙ append-nil w.gone)) w.marked

-- each option left has a place: the next, and those behind it
module _ (s : List ℕ) (places at n : ℕ) (each : T (each_of (λ a. ltb (place_of a) places) (options_at s at n))) (h : 0 < n) where
  these : T (each_of (λ a. ltb (place_of a) places) (option_at s at ∷ options_at s (at + 5) (n - 1)))
  these = subst (λ (x : List SignedAtom). T (each_of (λ a. ltb (place_of a) places) x)) (options-first s at n h) each

  pub next-placed : place_of (option_at s at) < places
  next-placed =
      ltb→lt (place_of (option_at s at)) places
      (first (ltb (place_of (option_at s at)) places) (each_of (λ a. ltb (place_of a) places) (options_at s (at + 5) (n - 1))) these)

  pub rest-placed : T (each_of (λ a. ltb (place_of a) places) (options_at s (at + 5) (n - 1)))
  rest-placed = second (ltb (place_of (option_at s at)) places) (each_of (λ a. ltb (place_of a) places) (options_at s (at + 5) (n - 1))) these

-- a defeasible rule with places has a record with places
pub places_of : (t : List ℕ) (tags options : ℕ) (r : Rule) → T (placed tags options r) → Starts t r → letter_of t ≡ defeasible_letter → Places t tags options
unfolding placed
places_of t tags options (strict h b c) k w e = absurd (omega (arith, (strict-fields t h b c w).of-letter))
places_of t tags options (defeasible g h b c) k w e =
    let tag = first (ltb g.0 tags) (each_of (λ a. ltb (place_of a) options) h) k in
    let each = second (ltb g.0 tags) (each_of (λ a. ltb (place_of a) options) h) k in
    record {
      tag = rw (rule-tag t g h b c w) (ltb→lt g.0 tags tag);
      each = rw (rule-options t g h b c w) each;
    }

-- a strict rule's head adds nothing
pub head-strict : (t up low win lose : List ℕ) → (letter_of t ≡ defeasible_letter → ⊥) → HeadAdded t up low win lose win lose
head-strict t up low win lose n = record { win_same = refl; lose_same = refl; headed = go }
  where
    go : (p : Program) (os : List Override) (lowers : List ℕ) (r : Rule) → Starts t r → Tables os up low lowers → Headed p os win lose
        → Headed (p ++ r ∷ []) os win lose
    go p os lowers (strict h b c) w tables headed = headed-strict h b c headed
    go p os lowers (defeasible g h b c) w tables headed = absurd (n (defeasible-fields t g h b c w).of-letter)

-- a defeasible rule's head, by its tag's masks
pub head-defeasible : (t up low win lose won lost : List ℕ) (tag : ℕ) → letter_of t ≡ defeasible_letter → tag ≡ (tag_at t).0
    → Marked win won (get_or up tag 0) (options_at t 7 (head_count t)) → Marked lose lost (get_or low tag 0) (options_at t 7 (head_count t))
    → HeadAdded t up low win lose won lost
head-defeasible t up low win lose won lost tag e same mw ml = record { win_same = mw.same; lose_same = ml.same; headed = go }
  where
    go : (p : Program) (os : List Override) (lowers : List ℕ) (r : Rule) → Starts t r → Tables os up low lowers → Headed p os win lose
        → Headed (p ++ r ∷ []) os won lost
    go p os lowers (strict h b c) w tables headed = absurd (omega (arith, (strict-fields t h b c w).of-letter))
    go p os lowers (defeasible g h b c) w tables headed =
        let by-tag : tag ≡ g.0 = same ∙ ap (λ (u : Tag). u.0) (rule-tag t g h b c w) in
        headed-defeasible g h b c tables headed (rw (by-tag, rule-options t g h b c w) at mw) (rw (by-tag, rule-options t g h b c w) at ml)

-- no rule, and one rule more
pub heads-none : (up low win lose : List ℕ) → HeadsAdded [] up low win lose win lose
heads-none up low win lose = record { win_same = refl; lose_same = refl; headed = λ os lowers t h. h }

pub heads-more : {p : Program} {up low win lose won lost wins loses t : List ℕ} (r : Rule) → Starts t r → HeadsAdded p up low win lose won lost
    → HeadAdded t up low won lost wins loses → HeadsAdded (p ++ r ∷ []) up low win lose wins loses
heads-more {p} r w v x =
    record {
      win_same = x.win_same ∙ v.win_same;
      lose_same = x.lose_same ∙ v.lose_same;
      headed = λ os lowers t h. x.headed p os lowers r w t (v.headed os lowers t h);
    }
