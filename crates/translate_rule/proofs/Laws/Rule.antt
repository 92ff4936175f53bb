-- Laws of a rule's record and what is written for it.
-- In order: a defeasible rule's pieces, (2) and (3); the rule that starts a slice, by its letter.
-- Assumes nothing.
use Prim.Native.Nat.{ℕ, ◌+◌, ◌*◌}
use native.Mathlib.Omega.{arith}
use mathlib.Core.Path.{◌≡◌, refl, sym, ◌∙◌, ap, ap₂}
use mathlib.Core.Bool.{true, false}
use mathlib.Core.List.{List, [], ◌∷◌, ◌++◌, map, append_assoc, append-nil}
use lib.ListN.{length, take, drop, length-append, length-map}
use Rattle.buffer.specs.Write.{write}
use Rattle.literal.specs.declared.Tag.{Tag}
use Rattle.literal.specs.declared.SignedAtom.{SignedAtom}
use Rattle.literal.specs.declared.Literal.{Literal}
use Rattle.literal.specs.declared.Literal.TheVariants.{Defeated, Derived}
use Rattle.literal.specs.Literal.{encoded}
use Rattle.semantics.specs.Rule.{Rule, strict, defeasible}
use Rattle.semantics.specs.Translation.{rule_defeated, choice, all_defeated, options, translated_rule, record_length}
use Rattle.record.specs.Header.{defeasible_letter, letter_of, head_count, positive_count, naf_count}
use Rattle.record.specs.Layout.{encoded_literals, encoded_rule, encoded_rules}
use Rattle.record.proofs.Laws.Layout.{encoded-literals-append, length-encoded-rule}
use Rattle.record_walk.specs.Code.{Starts, tag_at, options_at}
use Rattle.record_walk.proofs.Laws.Fields.{strict-fields, defeasible-fields}
use Rattle.record_walk.proofs.Laws.Options.{counted, rule-options, rule-tag, rule-body}
use Rattle.record_write.specs.Code.{header}
use Rattle.record_write.proofs.Laws.Header.{strict-pieces}
use Rattle.translate_options.specs.Code.{mark_of}
use Rattle.translate_options.proofs.Laws.Marks.{marks}

-- one literal's bytes
literal-alone : (l : Literal) → encoded_literals (l ∷ []) ≡ encoded l
unfolding encoded_literals encoded
literal-alone l = refl

-- (2) in pieces
choice-pieces : (n : ℕ) (t : Tag) (h : List SignedAtom) (b c : List Literal)
    → ((header (length h) (length b) (length c + 1) ++ encoded_literals (map (Derived t) h)) ++ encoded_literals (b ++ c))
    ++ encoded (rule_defeated n) ≡ encoded_rule (choice n t h b c)
unfolding choice
choice-pieces n t h b c =
    append_assoc (hd ++ encoded_literals ds) (encoded_literals (b ++ c)) (encoded (rule_defeated n))
    ∙ append_assoc hd (encoded_literals ds) (encoded_literals (b ++ c) ++ encoded (rule_defeated n))
    ∙ ap₂ (λ (x y : List ℕ). x ++ y) counts
    (ap (λ (x : List ℕ). encoded_literals ds ++ x) body ∙ sym (encoded-literals-append ds (b ++ (c ++ (rule_defeated n ∷ [])))))
    ∙ strict-pieces ds b (c ++ (rule_defeated n ∷ []))
  where
    ds : List Literal
    ds = map (Derived t) h

    hd : List ℕ
    hd = header (length h) (length b) (length c + 1)

    counts : hd ≡ header (length ds) (length b) (length (c ++ (rule_defeated n ∷ [])))
    counts = ap₂ (λ (x y : ℕ). header x (length b) y) (sym (length-map h (Derived t))) (sym (length-append c (rule_defeated n ∷ [])))

    body : encoded_literals (b ++ c) ++ encoded (rule_defeated n) ≡ encoded_literals (b ++ (c ++ (rule_defeated n ∷ [])))
    body =
        ap (λ (x : List ℕ). encoded_literals (b ++ c) ++ x) (sym (literal-alone (rule_defeated n))) ∙ sym (encoded-literals-append (b ++ c) (rule_defeated n ∷ []))
        ∙ ap encoded_literals (append_assoc b c (rule_defeated n ∷ []))

module _ (s : List ℕ) (t : Tag) (h : List SignedAtom) (b c : List Literal) (w : Starts s (defeasible t h b c)) where
  -- what is written for (2) is its record
  pub choice-written : (n : ℕ)
      → ((header (head_count s) (positive_count s) (naf_count s + 1) ++ marks s true (tag_at s) 7 (head_count s))
      ++ take (5 * (positive_count s + naf_count s)) (drop (7 + 5 * head_count s) s)) ++ encoded (rule_defeated n)
      ≡ encoded_rule (choice n t h b c)
  unfolding mark_of
  choice-written n =
      let f = defeasible-fields s t h b c w in
      ap₂ (λ (x : List SignedAtom) (y : List
      ℕ). ((header (head_count s) (positive_count s) (naf_count s + 1) ++ encoded_literals (map (Derived (tag_at s)) x)) ++ y) ++ encoded (rule_defeated n))
      (rule-options s t h b c w) (rule-body s t h b c w)
      ∙ rw ((rule-tag s t h b c w), (counted s t h b c w), f.positives, f.nafs) (choice-pieces n t h b c)

  -- (2) has five bytes more than the record
  pub length-choice : (n : ℕ) → length (encoded_rule (choice n t h b c)) ≡ 12 + 5 * (head_count s + positive_count s + naf_count s)
  unfolding choice record_length
  length-choice n =
      let f = defeasible-fields s t h b c w in
      length-encoded-rule (choice n t h b c)
      ∙ omega (arith, (counted s t h b c w), f.positives, f.nafs, length-map h (Derived t), length-append c (rule_defeated n ∷ []))

  -- the rules that a defeasible rule becomes
  pub defeasible-written : (n : ℕ) → (encoded_rule (choice n t h b c) ++ encoded_rule (all_defeated n (tag_at s) (options_at s 7 (head_count s))))
      ++ encoded_rules (options (tag_at s) (options_at s 7 (head_count s))) ≡ encoded_rules (translated_rule n (defeasible t h b c))
  unfolding translated_rule encoded_rules
  defeasible-written n =
      append_assoc (encoded_rule (choice n t h b c)) (encoded_rule (all_defeated n (tag_at s) (options_at s 7 (head_count s))))
      (encoded_rules (options (tag_at s) (options_at s 7 (head_count s))))
      ∙ ap₂ (λ (u : Tag) (x : List SignedAtom). encoded_rule (choice n t h b c) ++ (encoded_rule (all_defeated n u x) ++ encoded_rules (options u x)))
      (rule-tag s t h b c w) (rule-options s t h b c w)

-- (3) has 12 bytes and five for each option
pub length-all-defeated : (n : ℕ) (t : Tag) (h : List SignedAtom) → length (encoded_rule (all_defeated n t h)) ≡ 12 + 5 * length h
unfolding all_defeated record_length
length-all-defeated n t h = length-encoded-rule (all_defeated n t h) ∙ omega (arith, length-map h (Defeated t))

-- what is written for (3) is its record
pub all-defeated-written : (n : ℕ) (t : Tag) (h : List SignedAtom) (k : ℕ) → length h ≡ k
    → (header 1 k 0 ++ encoded (rule_defeated n)) ++ encoded_literals (map (mark_of false t) h) ≡ encoded_rule (all_defeated n t h)
unfolding all_defeated mark_of
all-defeated-written n t h k e =
    append_assoc (header 1 k 0) (encoded (rule_defeated n)) (encoded_literals ds)
    ∙ ap₂ (λ (x : ℕ) (y : List ℕ). header 1 x 0 ++ y) (sym e ∙ sym (length-map h (Defeated t))) body
    ∙ strict-pieces (rule_defeated n ∷ []) ds []
  where
    ds : List Literal
    ds = map (Defeated t) h

    body : encoded (rule_defeated n) ++ encoded_literals ds ≡ encoded_literals (rule_defeated n ∷ (ds ++ []))
    body =
        ap (λ (x : List ℕ). x ++ encoded_literals ds) (sym (literal-alone (rule_defeated n))) ∙ sym (encoded-literals-append (rule_defeated n ∷ []) ds)
        ∙ ap (λ (ls : List Literal). encoded_literals (rule_defeated n ∷ ls)) (sym (append-nil ds))

-- what is written for the rule that starts s, by the letter
module _ (s : List ℕ) (n : ℕ) (d : List ℕ) (to : ℕ) (e : List ℕ) where
  -- at a D it is a defeasible rule
  pub written-defeasible : letter_of s ≡ defeasible_letter
      → ((t : Tag) (h : List SignedAtom) (b c : List Literal) → Starts s (defeasible t h b c)
      → e ≡ write d to (encoded_rules (translated_rule n (defeasible t h b c))))
      → (r : Rule) → Starts s r → e ≡ write d to (encoded_rules (translated_rule n r))
  written-defeasible letter f (strict h b c) w = absurd (omega (arith, letter, (strict-fields s h b c w).of-letter))
  written-defeasible letter f (defeasible t h b c) w = f t h b c w

  -- else a strict one
  pub written-strict : (letter_of s ≡ defeasible_letter → ⊥) → ((h b c : List Literal) → Starts s (strict h b c) → e ≡ write d to (encoded_rule (strict h b c)))
      → (r : Rule) → Starts s r → e ≡ write d to (encoded_rules (translated_rule n r))
  unfolding translated_rule encoded_rules
  written-strict letter f (strict h b c) w = f h b c w ∙ ap (write d to) (sym (append-nil (encoded_rule (strict h b c))))
  written-strict letter f (defeasible t h b c) w = absurd (letter (defeasible-fields s t h b c w).of-letter)
