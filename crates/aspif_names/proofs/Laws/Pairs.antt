-- Laws of constraints: the line of one, byte by byte, its length, and how it is written; what a place has, and the lines of all places.
-- In order: the line; its length; written; which atoms have one; a place that has one, a place that has none; all places.
-- Assumes nothing.
use Prim.Native.Nat.{ℕ, zero, suc, ◌+◌, ◌≤◌}
use native.Mathlib.Omega.{arith}
use mathlib.Core.Path.{◌≡◌, refl, ◌∙◌, ap, subst}
use mathlib.Core.Bool.{Bool, true, false, cond}
use mathlib.Core.List.{List, [], ◌∷◌, ◌++◌, map, map-append, append_assoc, append-nil}
use lib.ListN.{length, length-append}
use Rattle.buffer.specs.Write.{write, Wrote}
use Rattle.buffer.proofs.Laws.Writing.{Writing, wrote, writing_start, writing-next, writing-end}
use Rattle.decimal.specs.Decimal.{decimal, decimal_with}
use Rattle.aspif_meaning.specs.Ground.{GroundProgram}
use Rattle.aspif_meaning.specs.Program.{never_both}
use Rattle.aspif_text.specs.Text.{rule, line_end, field, fields, body_text, rule_line, line, lines}
use Rattle.aspif_text.proofs.Laws.Statements.{lines-append}
use Rattle.aspif_place.specs.Code.{row_places, marked, number_at_place, pairs_from}
use Rattle.aspif_rule.specs.Code.{Long}
use Rattle.aspif_names.specs.Code.{both_ways, pair_start, pair_at, pair_lines, places_from}

-- `1 0 0 0 2`, the two numbers, the line's end
abbrev numbers_text : ℕ → ℕ → List ℕ
numbers_text n m = field false n ++ (field false m ++ (line_end ∷ []))

abbrev pair_text : ℕ → ℕ → List ℕ
pair_text n m = pair_start ++ numbers_text n m

pair-numbers : (n m : ℕ) → fields false (n ∷ m ∷ []) ++ (fields true [] ++ (line_end ∷ [])) ≡ numbers_text n m
unfolding fields
pair-numbers n m =
    append_assoc (field false n) (field false m ++ []) (line_end ∷ [])
    ∙ ap (λ (bs : List ℕ). field false n ++ bs) (append_assoc (field false m) [] (line_end ∷ []))

pair-text : (n m : ℕ) → rule_line (never_both n m) ≡ pair_text n m
unfolding rule_line never_both body_text fields field decimal decimal_with
pair-text n m =
    ap (λ (bs : List ℕ). pair_start ++ bs) (pair-numbers n m)

pub pair-length : (n m : ℕ) → length (rule_line (never_both n m)) ≡ 10 + (length (field false n) + length (field false m))
pair-length n m =
    omega (
      arith,
      ap length (pair-text n m),
      length-append (field false n) (field false m ++ (line_end ∷ [])),
      length-append (field false m) (line_end ∷ []),
    )

pub pair-measured : (n m r s : ℕ) → Long r (field false n) 11 → Long s (field false m) 11 → Long (10 + r + s) (rule_line (never_both n m)) 32
pair-measured n m r s v w =
    record { long = omega (arith, v.long, w.long, pair-length n m); short = omega (arith, v.short, w.short) }

module _ (n m : ℕ) {d : List ℕ} {to : ℕ} (h : to + length (rule_line (never_both n m)) ≤ length d) where
  start : Writing d d to to (rule_line (never_both n m)) (pair_text n m)
  start = subst (Writing d d to to (rule_line (never_both n m))) (pair-text n m) (writing_start d to (rule_line (never_both n m)) h)

  -- its start, two fields, the line's end
  pub pair-wrote : {d₁ d₂ d₃ d₄ : List ℕ} {r₂ r₃ r₄ : ℕ} → d₁ ≡ write d to pair_start → Wrote d₁ d₂ (to + 9) (field false n) r₂
      → Wrote d₂ d₃ r₂ (field false m) r₃ → Wrote d₃ d₄ r₃ (line_end ∷ []) r₄ → Wrote d d₄ to (rule_line (never_both n m)) r₄
  pair-wrote v₁ v₂ v₃ v₄ =
      let w₁ = writing-next pair_start (numbers_text n m) start (wrote to pair_start (to + 9) v₁ refl) in
      let w₂ = writing-next (field false n) (field false m ++ (line_end ∷ [])) w₁ v₂ in
      let w₃ = writing-next (field false m) (line_end ∷ []) w₂ v₃ in
      writing-end (writing-next (line_end ∷ []) [] w₃ v₄)

-- whether an atom is marked both ways
module _ (bits : List ℕ) (a : ℕ) where
  pub both_by : marked bits a ≡ true → (b : Bool) → b ≡ marked bits (row_places + a) → b ≡ both_ways bits a
  unfolding both_ways
  both_by h b e = rw h e

  pub both-none : marked bits a ≡ false → false ≡ both_ways bits a
  unfolding both_ways
  both-none h = rw h

-- what the place of an atom has that is marked both ways, and of one that is not
module _ (bits : List ℕ) (a : ℕ) where
  pub pair-some : (n m : ℕ) → both_ways bits a ≡ true → n ≡ number_at_place bits a → m ≡ number_at_place bits (row_places + a)
      → pair_at bits a ≡ rule_line (never_both n m)
  unfolding pair_at
  pair-some n m h e f = rw (h, e, f)

  pub pair-none : both_ways bits a ≡ false → pair_at bits a ≡ []
  unfolding pair_at
  pair-none h = rw h

-- the constraints that a place has: one or none
abbrev here : Bool → List ℕ → ℕ → GroundProgram
here b bits a = cond b (never_both (number_at_place bits a) (number_at_place bits (row_places + a)) ∷ []) []

-- what a place has, as a line of a program's text
pair-lines : (bits : List ℕ) (a : ℕ) → lines (map rule (here (both_ways bits a) bits a)) ≡ pair_at bits a
unfolding pair_at lines line
pair-lines bits a = go (both_ways bits a)
  where
    go : (b : Bool) → lines (map rule (here b bits a)) ≡ cond b (rule_line (never_both (number_at_place bits a) (number_at_place bits (row_places + a)))) []
    go true = append-nil (rule_line (never_both (number_at_place bits a) (number_at_place bits (row_places + a))))
    go false = refl

-- all places
pairs-from : (bits : List ℕ) (a n : ℕ) → lines (map rule (pairs_from bits a n)) ≡ places_from (pair_at bits) a n
unfolding pairs_from places_from lines both_ways
pairs-from bits a zero = refl
pairs-from bits a (suc n) =
    let rest : GroundProgram = pairs_from bits (a + 1) n in
    ap lines (map-append rule (here (both_ways bits a) bits a) rest)
    ∙ lines-append (map rule (here (both_ways bits a) bits a)) (map rule rest)
    ∙ ap (λ (bs : List ℕ). bs ++ lines (map rule rest)) (pair-lines bits a)
    ∙ ap (λ (bs : List ℕ). pair_at bits a ++ bs) (pairs-from bits (a + 1) n)

pub pairs-places : (bits : List ℕ) → pair_lines bits ≡ places_from (pair_at bits) 0 row_places
unfolding pair_lines
pairs-places bits = pairs-from bits 0 row_places
