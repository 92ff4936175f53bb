-- Laws of names: the line of one, byte by byte, its length, and how it is written; what a place has, and the lines of all places.
-- In order: the line; its length; written; a place that has one, a place that has none; all places.
-- Assumes nothing.
use Prim.Native.Nat.{ℕ, zero, suc, ◌+◌, ◌≤◌, ◌<◌}
use native.Mathlib.Omega.{arith}
use mathlib.Core.Path.{◌≡◌, refl, sym, ◌∙◌, ap, subst}
use mathlib.Core.Bool.{Bool, true, false, cond}
use mathlib.Core.List.{List, [], ◌∷◌, ◌++◌, map, map-append, append_assoc, append-nil}
use lib.ListN.{length, length-append}
use Rattle.buffer.specs.Write.{write, Wrote}
use Rattle.buffer.proofs.Laws.Writing.{Writing, wrote, writing_start, writing-next, writing-end}
use Rattle.decimal.specs.Decimal.{decimal, decimal_with}
use Rattle.decimal.specs.Code.{Counted}
use Rattle.decimal.proofs.Laws.Decimal.{decimal-less, length_most}
use Rattle.aspif_meaning.specs.Program.{Name}
use Rattle.aspif_text.specs.Text.{Output, output, blank, line_end, field, fields, body_text, output_line, name_text, output_of, line, lines}
use Rattle.aspif_text.proofs.Laws.Statements.{lines-append}
use Rattle.aspif_place.specs.Code.{row_places, marked, number_at_place, names_from}
use Rattle.aspif_rule.specs.Code.{Long}
use Rattle.aspif_names.specs.Code.{signed, letter_of, row_from, name_line, name_at, name_lines, places_from}

-- ` 1`, the number, the line's end
abbrev number_text : ℕ → List ℕ
number_text n = blank ∷ 0x31 ∷ (field false n ++ (line_end ∷ []))

-- `4`, the name's length, the name, ` 1`, the number, the line's end
abbrev text_with : ℕ → Bool → ℕ → ℕ → List ℕ
text_with long negated a n = 0x34 ∷ blank ∷ (0x30 + long) ∷ blank ∷ letter_of negated ∷ (decimal a ++ number_text n)

name-number : (n : ℕ) → body_text (n ∷ []) [] ≡ number_text n
unfolding body_text fields field decimal decimal_with
name-number n = ap (λ (bs : List ℕ). blank ∷ 0x31 ∷ bs) (append_assoc (field false n) [] (line_end ∷ []))

-- a name's length is one figure
name-figure : (b a long : ℕ) → a < row_places → long ≡ 1 + length (decimal a) → field false (length (b ∷ decimal a)) ≡ blank ∷ (0x30 + long) ∷ []
unfolding field
name-figure b a long h e =
    let same : length (b ∷ decimal a) ≡ long = omega (arith, e) in
    ap (λ (bs : List ℕ). blank ∷ bs) (decimal-less (length (b ∷ decimal a)) (omega (arith, length_most 2 a (omega arith))))
    ∙ ap (λ (k : ℕ). blank ∷ (0x30 + k) ∷ []) same

name-letter : (negated : Bool) (a : ℕ) → name_text (signed negated a) ≡ letter_of negated ∷ decimal a
unfolding name_text signed letter_of
name-letter false a = refl
name-letter true a = refl

name-text : (negated : Bool) (a n long : ℕ) → a < row_places → long ≡ 1 + length (decimal a) → name_line negated a n ≡ text_with long negated a n
unfolding name_line output_line output_of
name-text negated a n long h e =
    rw (name-letter negated a, name-number n)
    (ap (λ (bs : List ℕ). 0x34 ∷ (bs ++ (blank ∷ letter_of negated ∷ (decimal a ++ number_text n)))) (name-figure (letter_of negated) a long h e))

pub name-length : (negated : Bool) (a n : ℕ) → a < row_places → length (name_line negated a n) ≡ 8 + (length (decimal a) + length (field false n))
name-length negated a n h =
    omega (
      arith,
      ap length (name-text negated a n (1 + length (decimal a)) h refl),
      length-append (decimal a) (number_text n),
      length-append (field false n) (line_end ∷ []),
    )

pub name-measured : (negated : Bool) (a n r s : ℕ) → a < row_places → Counted a r → Long s (field false n) 11 → Long (8 + r + s) (name_line negated a n) 32
name-measured negated a n r s h v w =
    record { long = omega (arith, v.figures, w.long, name-length negated a n h); short = omega (arith, v.most, w.short) }

module _ (negated : Bool) (a n : ℕ) {d : List ℕ} {to long : ℕ} (low : a < row_places) (e : long ≡ 1 + length (decimal a))
    (h : to + length (name_line negated a n) ≤ length d) where
  start : Writing d d to to (name_line negated a n) (text_with long negated a n)
  start = subst (Writing d d to to (name_line negated a n)) (name-text negated a n long low e) (writing_start d to (name_line negated a n) h)

  -- a byte, two words, the atom's figures, a word, a field, the line's end
  pub name-wrote : {d₁ d₂ d₃ d₄ d₅ d₆ d₇ : List ℕ} {r₂ r₃ r₄ r₅ r₆ r₇ letter : ℕ} → letter ≡ letter_of negated → d₁ ≡ write d to (0x34 ∷ [])
      → Wrote d₁ d₂ (to + 1) (blank ∷ (0x30 + long) ∷ []) r₂ → Wrote d₂ d₃ r₂ (blank ∷ letter ∷ []) r₃ → Wrote d₃ d₄ r₃ (decimal a) r₄
      → Wrote d₄ d₅ r₄ (blank ∷ 0x31 ∷ []) r₅ → Wrote d₅ d₆ r₅ (field false n) r₆ → Wrote d₆ d₇ r₆ (line_end ∷ []) r₇
      → Wrote d d₇ to (name_line negated a n) r₇
  name-wrote {d₂ = d₂} {d₃} {r₂ = r₂} {r₃} sign v₁ v₂ v₃ v₄ v₅ v₆ v₇ =
      let name = blank ∷ letter_of negated ∷ (decimal a ++ number_text n) in
      let w₁ = writing-next (0x34 ∷ []) (blank ∷ (0x30 + long) ∷ name) start (wrote to (0x34 ∷ []) (to + 1) v₁ refl) in
      let w₂ = writing-next (blank ∷ (0x30 + long) ∷ []) name w₁ v₂ in
      let u₃ = subst (λ (b : ℕ). Wrote d₂ d₃ r₂ (blank ∷ b ∷ []) r₃) sign v₃ in
      let w₃ = writing-next (blank ∷ letter_of negated ∷ []) (decimal a ++ number_text n) w₂ u₃ in
      let w₄ = writing-next (decimal a) (number_text n) w₃ v₄ in
      let w₅ = writing-next (blank ∷ 0x31 ∷ []) (field false n ++ (line_end ∷ [])) w₄ v₅ in
      let w₆ = writing-next (field false n) (line_end ∷ []) w₅ v₆ in
      writing-end (writing-next (line_end ∷ []) [] w₆ v₇)

-- a place that is marked, and one that is not
module _ (bits : List ℕ) (negated : Bool) (a : ℕ) where
  pub name-some : (place n : ℕ) → place ≡ row_from negated + a → marked bits place ≡ true → n ≡ number_at_place bits place
      → name_at bits negated a ≡ name_line negated a n
  unfolding name_at
  name-some place n e h f = rw (sym e, h, f)

  pub name-none : (place : ℕ) → place ≡ row_from negated + a → marked bits place ≡ false → name_at bits negated a ≡ []
  unfolding name_at
  name-none place e h = rw (sym e, h)

-- the names that a place has: one or none
abbrev here : Bool → List ℕ → Bool → ℕ → List Name
here b bits negated a = cond b (record { atom = signed negated a; number = number_at_place bits (row_from negated + a) } ∷ []) []

-- what a place has, as a line of a program's text
name-lines : (bits : List ℕ) (negated : Bool) (a : ℕ)
    → lines (map output (map output_of (here (marked bits (row_from negated + a)) bits negated a))) ≡ name_at bits negated a
unfolding name_at name_line lines line
name-lines bits negated a = go (marked bits (row_from negated + a))
  where
    go : (b : Bool) → lines (map output (map output_of (here b bits negated a))) ≡ cond b (name_line negated a (number_at_place bits (row_from negated + a))) []
    go true = append-nil (name_line negated a (number_at_place bits (row_from negated + a)))
    go false = refl

-- all places
names-from : (bits : List ℕ) (negated : Bool) (a n : ℕ)
    → lines (map output (map output_of (names_from bits (signed negated) (row_from negated) a n))) ≡ places_from (name_at bits negated) a n
unfolding names_from places_from lines
names-from bits negated a zero = refl
names-from bits negated a (suc n) =
    let one : List Name = here (marked bits (row_from negated + a)) bits negated a in
    let rest : List Name = names_from bits (signed negated) (row_from negated) (a + 1) n in
    ap (λ (xs : List Output). lines (map output xs)) (map-append output_of one rest)
    ∙ ap lines (map-append output (map output_of one) (map output_of rest))
    ∙ lines-append (map output (map output_of one)) (map output (map output_of rest))
    ∙ ap (λ (bs : List ℕ). bs ++ lines (map output (map output_of rest))) (name-lines bits negated a)
    ∙ ap (λ (bs : List ℕ). name_at bits negated a ++ bs) (names-from bits negated (a + 1) n)

pub names-places : (bits : List ℕ) (negated : Bool) → name_lines bits negated ≡ places_from (name_at bits negated) 0 row_places
unfolding name_lines
names-places bits negated = names-from bits negated 0 row_places
