-- Laws of a rule's line: its parts, and their lengths.
-- In order: numbers; the parts of a line; a record's; the line's length by its counts and its fields.
-- Assumes nothing.
use Prim.Native.Nat.{ℕ, zero, suc, ◌+◌, ◌*◌}
use native.Mathlib.Omega.{arith}
use native.Mathlib.Nat.{zero-add}
use mathlib.Core.Path.{◌≡◌, refl, sym, ◌∙◌, ap, ap₂, subst}
use mathlib.Core.Bool.{Bool, true, false}
use mathlib.Core.List.{List, [], ◌∷◌, ◌++◌, map, append_assoc, map-append}
use lib.ListN.{length, drop, length-append, length-map}
use Rattle.record.specs.Header.{head_count, positive_count, naf_count}
use Rattle.record_walk.specs.Code.{record_size}
use Rattle.aspif_meaning.specs.Ground.{GroundRule}
use Rattle.aspif_text.specs.Text.{blank, line_end, field, fields, body_text, rule_line}
use Rattle.aspif_place.specs.Code.{place_at, number_at_place}
use Rattle.aspif_number.specs.Code.{places_at}
use Rattle.aspif_number.proofs.Laws.Place.{length-places}
use Rattle.aspif_rule.specs.Code.{numbers_at, ground_at, head_text, CountsLong, Long}

-- places in two stretches
places-split : (s : List ℕ) (at n m : ℕ) → places_at s at (n + m) ≡ places_at s at n ++ places_at s (at + 5 * n) m
unfolding places_at
places-split s at zero m = ap₂ (places_at s) start (zero-add m)
  where
    start : at ≡ at + 5 * zero
    start = omega arith
places-split s at (suc n) m =
    ap (places_at s at) sum ∙ ap (λ (ks : List ℕ). place_at (drop at s) ∷ ks) (places-split s (at + 5) n m)
    ∙ ap (λ (k : ℕ). places_at s at (suc n) ++ places_at s k m) next
  where
    sum : suc n + m ≡ suc (n + m)
    sum = omega arith

    next : at + 5 + 5 * n ≡ at + 5 * suc n
    next = omega arith

pub length-numbers : (bits s : List ℕ) (at n : ℕ) → length (numbers_at bits s at n) ≡ n
unfolding numbers_at
length-numbers bits s at n = length-map (places_at s at n) (number_at_place bits) ∙ length-places s at n

-- how long the parts of a line are
length-head : (hs : List ℕ) → length (head_text hs) ≡ 3 + (length (field false (length hs)) + length (fields false hs))
unfolding head_text
length-head hs = omega (arith, length-append (field false (length hs)) (fields false hs))

length-body : (r : GroundRule)
    → length (body_text r.positive r.naf) ≡ length (field false (length r.positive + length r.naf))
    + (length (fields false r.positive) + (length (fields true r.naf) + 1))
unfolding body_text
length-body r =
    let count = field false (length r.positive + length r.naf) in
    let nafs = fields true r.naf ++ (line_end ∷ []) in
    omega (
      arith,
      length-append count (fields false r.positive ++ nafs),
      length-append (fields false r.positive) nafs,
      length-append (fields true r.naf) (line_end ∷ []),
    )

pub line-parts : (r : GroundRule) → rule_line r ≡ head_text r.head ++ (blank ∷ 0x30 ∷ body_text r.positive r.naf)
unfolding rule_line head_text
line-parts r =
    ap (λ (bs : List ℕ). 0x31 ∷ blank ∷ 0x30 ∷ bs)
    (sym (append_assoc (field false (length r.head)) (fields false r.head) (blank ∷ 0x30 ∷ body_text r.positive r.naf)))

pub length-line : (r : GroundRule) → length (rule_line r) ≡ length (head_text r.head) + (2 + length (body_text r.positive r.naf))
length-line r = omega (arith, ap length (line-parts r), length-append (head_text r.head) (blank ∷ 0x30 ∷ body_text r.positive r.naf))

module _ (bits t : List ℕ) where
  -- the numbers of the head, of the positive body and under naf are as many as are counted
  pub head-numbers : length (ground_at bits t).head ≡ head_count t
  unfolding ground_at
  head-numbers = length-numbers bits t 7 (head_count t)

  pub positive-numbers : length (ground_at bits t).positive ≡ positive_count t
  unfolding ground_at
  positive-numbers = length-numbers bits t (7 + 5 * head_count t) (positive_count t)

  pub naf-numbers : length (ground_at bits t).naf ≡ naf_count t
  unfolding ground_at
  naf-numbers = length-numbers bits t (7 + 5 * (head_count t + positive_count t)) (naf_count t)

  -- how long the parts of its line are
  pub head-long : length (head_text (ground_at bits t).head) ≡ 3 + (length (field false (head_count t)) + length (fields false (numbers_at bits t 7 (head_count t))))
  unfolding ground_at
  head-long = length-head (ground_at bits t).head ∙ ap (λ (k : ℕ). 3 + (length (field false k) + length (fields false (numbers_at bits t 7 (head_count t))))) head-numbers

  pub body-long : length (body_text (ground_at bits t).positive (ground_at bits t).naf) ≡ length (field false (positive_count t + naf_count t))
      + (length (fields false (numbers_at bits t (7 + 5 * head_count t) (positive_count t)))
      + (length (fields true (numbers_at bits t (7 + 5 * (head_count t + positive_count t)) (naf_count t))) + 1))
  unfolding ground_at
  body-long =
      length-body (ground_at bits t)
      ∙ ap₂ (λ (i j : ℕ). length (field false (i + j)) + (length (fields false (ground_at bits t).positive) + (length (fields true (ground_at bits t).naf) + 1)))
      positive-numbers naf-numbers

-- the fields of numbers under naf have a minus each
fields-naf : (ns : List ℕ) → length (fields true ns) ≡ length (fields false ns) + length ns
unfolding fields field
fields-naf [] = refl
fields-naf (n ∷ ns) =
    omega (arith, length-append (field true n) (fields true ns), length-append (field false n) (fields false ns), fields-naf ns)

pub fields-append : (b : Bool) (ns ms : List ℕ) → fields b (ns ++ ms) ≡ fields b ns ++ fields b ms
unfolding fields
fields-append b [] ms = refl
fields-append b (n ∷ ns) ms = ap (λ (bs : List ℕ). field b n ++ bs) (fields-append b ns ms) ∙ sym (append_assoc (field b n) (fields b ns) (fields b ms))

pub numbers-split : (bits s : List ℕ) (at n m : ℕ) → numbers_at bits s at (n + m) ≡ numbers_at bits s at n ++ numbers_at bits s (at + 5 * n) m
unfolding numbers_at
numbers-split bits s at n m =
    ap (map (number_at_place bits)) (places-split s at n m) ∙ map-append (number_at_place bits) (places_at s at n) (places_at s (at + 5 * n) m)

-- the length of a line, by its counts and by the fields of all its numbers
line-long : (bits t : List ℕ) (rest run : ℕ) → CountsLong (head_count t) (positive_count t) (naf_count t) rest
    → Long run (fields false (numbers_at bits t 7 (head_count t + positive_count t + naf_count t))) (11 * (head_count t + positive_count t + naf_count t))
    → Long (rest + run) (rule_line (ground_at bits t)) (12 * record_size t)
line-long bits t rest run w v =
    let h = head_count t in
    let b = positive_count t in
    let c = naf_count t in
    let heads = numbers_at bits t 7 h in
    let positives = numbers_at bits t (7 + 5 * h) b in
    let nafs = numbers_at bits t (7 + 5 * (h + b)) c in
    let all = ap (fields false) (numbers-split bits t 7 (h + b) c ∙ ap (λ (ns : List ℕ). ns ++ nafs) (numbers-split bits t 7 h b))
    ∙ fields-append false (heads ++ positives) nafs ∙ ap (λ (bs : List ℕ). bs ++ fields false nafs) (fields-append false heads positives) in
    record {
      long =
          omega (
            arith,
            w.long,
            v.long,
            length-line (ground_at bits t),
            head-long bits t,
            body-long bits t,
            ap length all,
            length-append (fields false heads ++ fields false positives) (fields false nafs),
            length-append (fields false heads) (fields false positives),
            fields-naf nafs,
            length-numbers bits t (7 + 5 * (h + b)) c,
          );
      short = omega (arith, w.short, v.short);
    }

-- the same where the literals were counted
pub counted-long : (bits t : List ℕ) (n rest run : ℕ) → n ≡ head_count t + positive_count t + naf_count t
    → CountsLong (head_count t) (positive_count t) (naf_count t) rest → Long run (fields false (numbers_at bits t 7 n)) (11 * n)
    → Long (rest + run) (rule_line (ground_at bits t)) (12 * record_size t)
counted-long bits t n rest run e w v = line-long bits t rest run w (subst (λ (k : ℕ). Long run (fields false (numbers_at bits t 7 k)) (11 * k)) e v)
