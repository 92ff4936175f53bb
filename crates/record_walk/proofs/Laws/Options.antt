-- Laws of the tag and the options in a rule's record.
-- In order: options one by one; options that literals spell; those of a defeasible rule's record, its tag, its body.
-- Assumes nothing.
use Prim.Native.Nat.{ℕ, zero, suc, ◌+◌, ◌*◌, ◌-◌, ◌≤◌, ◌<◌}
use native.Mathlib.Omega.{arith}
use native.Mathlib.Nat.{add-zero}
use mathlib.Core.Path.{◌≡◌, refl, sym, ◌∙◌, ap, ap₂}
use mathlib.Core.List.{List, [], ◌∷◌, ◌++◌, map, append_assoc}
use lib.ListN.{length, get_or, take, drop, length-append, length-map}
use lib.Seq.{drop-drop, drop_at, get_or-drop}
use Rattle.buffer.specs.Bytes.{number, number_at}
use Rattle.literal.specs.declared.Tag.{Tag}
use Rattle.literal.specs.declared.SignedAtom.{SignedAtom}
use Rattle.literal.specs.declared.Literal.{Literal}
use Rattle.literal.specs.declared.Literal.TheVariants.{Signed}
use Rattle.literal.specs.Literal.{encoded, signed_atom}
use Rattle.literal.proofs.Laws.Literal.{length-encoded}
use Rattle.literal.proofs.Laws.Sign.{option-first}
use Rattle.semantics.specs.Rule.{defeasible}
use Rattle.record.specs.Header.{head_count, positive_count, naf_count}
use Rattle.record.specs.Layout.{encoded_literals}
use Rattle.record.proofs.Laws.Layout.{encoded-literals-append}
use Rattle.record_walk.specs.Code.{Starts, tag_at, option_at, options_at}
use Rattle.record_walk.proofs.Laws.Fields.{defeasible-fields, literals-behind}

module _ (s : List ℕ) where
  -- as many options as are counted
  pub length-options-at : (n at : ℕ) → length (options_at s at n) ≡ n
  unfolding options_at
  length-options-at zero at = refl
  length-options-at (suc n) at = ap suc (length-options-at n (at + 5))

  -- the first option, and those that are left
  pub options-first : (at n : ℕ) → 0 < n → options_at s at n ≡ option_at s at ∷ options_at s (at + 5) (n - 1)
  unfolding options_at
  options-first at zero h = absurd (omega arith)
  options-first at (suc n) h = ap (λ (k : ℕ). option_at s at ∷ options_at s (at + 5) k) back
    where
      back : n ≡ suc n - 1
      back = omega arith

  -- what is left of a record's n options behind the first i: the next option, and those behind it
  pub options-next : (i n : ℕ) → i < n
      → options_at s (7 + 5 * i) (n - i) ≡ option_at s (7 + 5 * i) ∷ options_at s (7 + 5 * (i + 1)) (n - (i + 1))
  options-next i n h =
      options-first (7 + 5 * i) (n - i) (omega arith)
      ∙ ap₂ (λ (at k : ℕ). option_at s (7 + 5 * i) ∷ options_at s at k) (omega arith) (omega arith)

  -- no option left
  pub options-none : (at n : ℕ) → n ≤ 0 → options_at s at n ≡ []
  unfolding options_at
  options-none at zero h = refl
  options-none at (suc n) h = absurd (omega arith)

-- an option at a place is one at the start of the part
option-drop : (s : List ℕ) (at : ℕ) → option_at s at ≡ signed_atom (get_or (drop at s) 0 0) (number_at (drop at s) 3)
unfolding option_at
option-drop s at =
    rw (get_or-drop at s 0 0, get_or-drop at s 3 0, get_or-drop at s 4 0, add-zero at)
    (ap (λ (i : ℕ). signed_atom (get_or s at 0) (number (get_or s (at + 3) 0) (get_or s i 0))) four)
  where
    four : at + 3 + 1 ≡ at + 4
    four = omega arith

-- the options of a head are spelled by its literals
pub options-spelled : (s : List ℕ) (h : List SignedAtom) (at : ℕ) (rest : List ℕ) → drop at s ≡ encoded_literals (map Signed h) ++ rest
    → options_at s at (length h) ≡ h
unfolding options_at encoded_literals
options-spelled s [] at rest e = refl
options-spelled s (a ∷ h) at rest e =
    let here : drop at s ≡ encoded (Signed a) ++ (encoded_literals (map Signed h) ++ rest) = e
    ∙ append_assoc (encoded (Signed a)) (encoded_literals (map Signed h)) rest in
    let first = option-drop s at ∙ ap (λ (x : List ℕ). signed_atom (get_or x 0 0) (number_at x 3)) here ∙ option-first a (encoded_literals (map Signed h) ++ rest) in
    let next = sym (drop-drop 5 at s) ∙ ap (drop 5) here
    ∙ drop_at (encoded (Signed a)) (encoded_literals (map Signed h) ++ rest) 5 (length-encoded (Signed a)) in
    ap₂ (λ (x : SignedAtom) (xs : List SignedAtom). x ∷ xs) first (options-spelled s h (at + 5) rest next)

module _ (s : List ℕ) (t : Tag) (h : List SignedAtom) (b c : List Literal) (w : Starts s (defeasible t h b c)) where
  -- the head count is the number of options
  pub counted : head_count s ≡ length h
  counted = (defeasible-fields s t h b c w).heads ∙ length-map h Signed

  -- the options in the record are the rule's
  pub rule-options : options_at s 7 (head_count s) ≡ h
  rule-options =
      let f = defeasible-fields s t h b c w in
      ap (options_at s 7) counted
      ∙ options-spelled s h 7 (encoded_literals (b ++ c) ++ w.rest)
      (f.literals ∙ ap (λ (x : List ℕ). x ++ w.rest) (encoded-literals-append (map Signed h) (b ++ c))
      ∙ append_assoc (encoded_literals (map Signed h)) (encoded_literals (b ++ c)) w.rest)

  -- the tag in the record is the rule's
  pub rule-tag : tag_at s ≡ t
  unfolding tag_at
  rule-tag = ap (λ (m : ℕ). record { 0 = m }) (defeasible-fields s t h b c w).of-tag

  -- the bytes of its body
  pub rule-body : take (5 * (positive_count s + naf_count s)) (drop (7 + 5 * head_count s) s) ≡ encoded_literals (b ++ c)
  rule-body =
      let f = defeasible-fields s t h b c w in
      let size : 5 * (positive_count s + naf_count s) ≡ 5 * length (b ++ c) = omega (arith, f.positives, f.nafs, length-append b c) in
      ap₂ (λ (m n : ℕ). take m (drop (7 + 5 * n) s)) size f.heads ∙ literals-behind s (map Signed h) (b ++ c) w.rest f.literals
